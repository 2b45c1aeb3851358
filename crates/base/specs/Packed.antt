-- The tags of packed bytes.
use Rattle.std.specs.Prelude.{◌≡◌, ℕ, ◌%◌, ◌<◌, ◌≤◌, cond, List, map, length, None, Ok, Err, Result, nat_lt}
use Rattle.automata.specs.declared.tag.Tag.{Tag}
use Rattle.automata.specs.declared.tag.Tag.TheVariants.{Open, Close}
use Rattle.text.specs.declared.refusal.Refusal.{Refusal}
use Rattle.text.specs.declared.refusal.Refusal.TheVariants.{TooLong}
use Rattle.base.specs.Sources.{Source}
use Rattle.base.specs.declared.packed.PackedSource.{PackedSource}

-- the low seven bits are the label, the high bit marks a closing
abbrev pub packed_tag : ℕ → Tag ℕ
packed_tag b = cond (nat_lt b 128) (Open (b % 128)) (Close (b % 128))

-- each byte is a tag, and the end is clean
abbrev pub packed_source : List ℕ → Source
packed_source bytes = record { waiting = map packed_tag bytes; ending = None }

-- what a source over bytes holds: the bytes that are left
abbrev pub packed_holds : PackedSource → Source
packed_holds s = packed_source s.bytes.now

-- a fresh source holds all the bytes, which are not too many
abbrev pub Starts : List ℕ → Result PackedSource Refusal → Type 0
Starts bytes (Ok s) = (length bytes ≤ 65536) × (packed_holds s ≡ packed_source bytes)
Starts bytes (Err why) = (65536 < length bytes) × (why ≡ TooLong)
