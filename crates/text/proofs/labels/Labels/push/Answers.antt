use Rattle.std.proofs.Common.{rules}
use Rattle.std.proofs.lemmas.List.{length_push, length-map}
use Rattle.text.specs.Labelled.{names_of}
use Rattle.text.specs.Lists.{items}
use Rattle.text.specs.Stored.{name_bytes}
use Rattle.text.proofs.Naming.{place_among, twice_push, stored_push}
use Rattle.text.proofs.labels.Labels.push.Goals as goal

pub returns-then-is_some-clause-result : goal.returns-then-is_some-clause-result
returns-then-is_some-clause-result c =
    let there = place_among (names_of c.args.self.now) c.args.name.now in
    let few = length-map (items c.args.self.now.names) name_bytes in
    search rules

pub invariant_of-self : goal.invariant_of-self
invariant_of-self c =
    let l = c.args.self.now in
    let there = place_among (names_of l) c.args.name.now in
    let few = length-map (items l.names) name_bytes in
    let more = stored_push l.names c.in_ok-added.added c.push.new.self in
    search (rules, twice_push, length_push)

pub returns-clause-result : goal.returns-clause-result
returns-clause-result c =
    let there = place_among (names_of c.args.self.now) c.args.name.now in
    let few = length-map (items c.args.self.now.names) name_bytes in
    search rules
