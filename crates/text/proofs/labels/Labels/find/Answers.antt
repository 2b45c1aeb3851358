use Rattle.std.proofs.Common.{◌≡◌, Some, rules}
use Rattle.text.specs.NameLists.{place}
use Rattle.text.specs.Lists.{items}
use Rattle.text.specs.Labelled.{names_of}
use Rattle.text.proofs.Naming.{place_by_position, lowest_at}
use Rattle.text.proofs.labels.Labels.find.Goals as goal

pub returns-in_err-place-clause-place : goal.returns-in_err-place-clause-place
returns-in_err-place-clause-place c =
    let there = place_by_position c.args.name.now (items c.args.self.now.names) in
    search rules

pub returns-in_err-place-clause-lowest : goal.returns-in_err-place-clause-lowest
returns-in_err-place-clause-lowest c =
    let there = place_by_position c.args.name.now (items c.args.self.now.names) in
    search (rules, lowest_at)

pub returns-clause-place : goal.returns-clause-place
returns-clause-place c =
    let there = place_by_position c.args.name.now (items c.args.self.now.names) in
    search rules

pub returns-clause-lowest : goal.returns-clause-lowest
returns-clause-lowest c =
    let there = place_by_position c.args.name.now (items c.args.self.now.names) in
    let found : Some c.in_ok-place.place ≡ place (names_of c.args.self.now) c.args.name.now = search rules in
    lowest_at (names_of c.args.self.now) c.args.name.now (Some c.in_ok-place.place) found
