-- One call of a source: over packed bytes, and over lines.
use Rattle.std.proofs.Common.{◌≡◌, ℕ, ◌+◌, ◌-◌, ◌<◌, ◌≤◌, List, [], ◌∷◌, length, get_or, take, drop, Some, None, Ok, Err, Result, sym, refl, ap, arith}
use Rattle.std.proofs.lemmas.List.{take_rest}
use Rattle.automata.specs.declared.tag.Tag.{Tag}
use Rattle.text.specs.declared.refusal.Refusal.{Refusal}
use Rattle.text.specs.Pieces.{next, split}
use Rattle.base.specs.Sources.{Source, Gives}
use Rattle.base.specs.TagLines.{opens, closes, marked, tag_of}
use Rattle.base.specs.Lines.{tag_then, from_line}
use Rattle.base.specs.Packed.{packed_tag, packed_source}

pub packed_end : (bytes : List ℕ) → length bytes ≤ 0 → Gives (packed_source bytes) (Ok None) (packed_source bytes)
packed_end [] h = record { given = refl; left = refl }
packed_end (b ∷ bytes) h = absurd (omega arith)

pub packed_more : (bytes : List ℕ) (tag : Tag ℕ) → 0 < length bytes → tag ≡ packed_tag (get_or bytes 0 0) → Gives (packed_source bytes) (Ok (Some tag)) (packed_source (drop 1 bytes))
packed_more [] tag h e = absurd (omega arith)
packed_more (b ∷ bytes) tag h e = record { given = ap (λ t. Ok (Some t)) e; left = refl }

pub marked_open : (line : List ℕ) → 2 ≤ length line → get_or line 0 0 ≡ 43 → get_or line 1 0 ≡ 9 → marked line ≡ opens (drop 2 line)
marked_open [] h m t = absurd (omega arith)
marked_open (x ∷ []) h m t = absurd (omega arith)
marked_open (x ∷ y ∷ name) h m t = rw (m, t)

pub marked_close : (line : List ℕ) → 2 ≤ length line → get_or line 0 0 ≡ 45 → get_or line 1 0 ≡ 9 → marked line ≡ closes (drop 2 line)
marked_close [] h m t = absurd (omega arith)
marked_close (x ∷ []) h m t = absurd (omega arith)
marked_close (x ∷ y ∷ name) h m t = rw (m, t)

pub lines_end : (names : List (List ℕ)) (n : ℕ) (text : List ℕ) → length text ≤ 0 → Gives (from_line names n (split 10 text)) (Ok None) (from_line names n (split 10 text))
lines_end names n [] h = record { given = refl; left = refl }
lines_end names n (b ∷ text) h = absurd (omega arith)

tag_given : (n : ℕ) (r : Result (Tag ℕ) Refusal) (tag : Tag ℕ) (later : Source) → r ≡ Ok tag → Gives (tag_then n r later) (Ok (Some tag)) later
tag_given n r tag later e = rw e (record { given = refl; left = refl })

fault_given : (n : ℕ) (r : Result (Tag ℕ) Refusal) (refusal : Refusal) (later : Source) → r ≡ Err refusal → Gives (tag_then n r later) (Err (record { refusal = refusal; line = n })) (tag_then n r later)
fault_given n r refusal later e = rw e (record { given = refl; left = refl })

-- the first line ends at i; `&text[i + 1..]` as the checker reads it
module _ (names : List (List ℕ)) (n : ℕ) (text : List ℕ) (i : ℕ) where
  first_line : split 10 text ≡ next (take i text) (split 10 (drop (i + 1) text)) → from_line names n (split 10 text) ≡ tag_then n (tag_of names (take i text)) (from_line names (n + 1) (split 10 (take (length text - (i + 1)) (drop (i + 1) text))))
  first_line e = rw (e, take_rest)

  pub lines_tag : (tag : Tag ℕ) → split 10 text ≡ next (take i text) (split 10 (drop (i + 1) text)) → Ok tag ≡ tag_of names (take i text) → Gives (from_line names n (split 10 text)) (Ok (Some tag)) (from_line names (n + 1) (split 10 (take (length text - (i + 1)) (drop (i + 1) text))))
  lines_tag tag e t = rw (first_line e) (tag_given n _ tag _ (sym t))

  pub lines_fault : (refusal : Refusal) → split 10 text ≡ next (take i text) (split 10 (drop (i + 1) text)) → Err refusal ≡ tag_of names (take i text) → Gives (from_line names n (split 10 text)) (Err (record { refusal = refusal; line = n })) (from_line names n (split 10 text))
  lines_fault refusal e t = rw (first_line e) (fault_given n _ refusal _ (sym t))
