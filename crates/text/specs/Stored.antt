-- The names that are stored.
use Rattle.std.specs.Prelude.{ℕ, List, map}
use Rattle.text.specs.declared.labels.name.Name.{Name}
use Rattle.text.specs.declared.list.ArrayList.{ArrayList}
use Rattle.text.specs.Lists.{items}

abbrev pub name_bytes : Name → List ℕ
name_bytes n = items n.bytes

abbrev pub stored : ArrayList Name 16 → List (List ℕ)
stored names = map name_bytes (items names)
