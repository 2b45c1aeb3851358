use Rattle.std.proofs.Common.{[], rules}
use Rattle.std.proofs.lemmas.List.{get_or-map, length-map}
use Rattle.text.specs.Lists.{items}
use Rattle.text.specs.Stored.{name_bytes}
use Rattle.text.proofs.Naming.{place_own}
use Rattle.text.proofs.labels.Labels.name.Goals as goal

pub returns : goal.returns
returns c =
    let l = c.args.self.now in
    let n = c.in_ok-name.name.now in
    let read = get_or-map name_bytes (items l.names) c.args.label n [] in
    let few = length-map (items l.names) name_bytes in
    search (rules, place_own)
