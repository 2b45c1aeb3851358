-- What holds of the outcome of a query that was read holds of the query.
use Rattle.std.proofs.Common.{◌≡◌, ℕ, List, Option, Result, sym, subst}
use Rattle.text.specs.declared.refusal.Refusal.{Refusal}
use Rattle.base.specs.declared.table.Table.{Table}
use Rattle.capi.specs.Grades.{Grades, short, refused, graded}
use Rattle.capi.specs.Outcomes.{Buffers, Unbegun, no_table, no_selector, no_source, Picks, unknown, read}
use Rattle.capi.specs.Outcomes.Picks.{short as too_few, refused as unbegun}
use Rattle.choosing.specs.declared.kind.SelectorKind.{SelectorKind}

module _ {Q : Result Table Refusal → Type 0} {q : Result Table Refusal} where
  pub grades_read : (before after : List ℕ) (r : ℕ) → Q q → Grades (λ p. p ≡ q) before after r → Grades Q before after r
  grades_read before after r h (short l n e) = short l n e
  grades_read before after r h (refused why l is n e) = refused why l (subst Q (sym is) h) n e
  grades_read before after r h (graded t g l is of n e) = graded t g l (subst Q (sym is) h) of n e

  unbegun_read : (w : Option SelectorKind) (tags : List ℕ) (why : Refusal) → Q q → Unbegun (λ p. p ≡ q) w tags why → Unbegun Q w tags why
  unbegun_read w tags why h (no_table is) = no_table (subst Q (sym is) h)
  unbegun_read w tags why h (no_selector t is c) = no_selector t (subst Q (sym is) h) c
  unbegun_read w tags why h (no_source t c is k l e) = no_source t c (subst Q (sym is) h) k l e

  pub picks_read : (asked limit : ℕ) (tags : List ℕ) (before after : Buffers) (r : ℕ) → Q q → Picks (λ p. p ≡ q) asked limit tags before after r → Picks Q asked limit tags before after r
  picks_read asked limit tags before after r h (too_few l n e) = too_few l n e
  picks_read asked limit tags before after r h (unknown l w n e) = unknown l w n e
  picks_read asked limit tags before after r h (unbegun w why l is u n e) = unbegun w why l is (unbegun_read w tags why h u) n e
  picks_read asked limit tags before after r h (read w selector reading l is p n e) =
      read w selector reading l is (record {
        table = p.table;
        chosen = p.chosen;
        queried = subst Q (sym p.queried) h;
        chooses = p.chooses;
        few = p.few;
        selected = p.selected;
        reads = p.reads;
      }) n e

-- the memory that is left
pub picks_left : {Q : Result Table Refusal → Type 0} {asked limit : ℕ} {tags : List ℕ} {before after left : Buffers} {r : ℕ} → after.stack ≡ left.stack → after.picks ≡ left.picks → after.totals ≡ left.totals → Picks Q asked limit tags before after r → Picks Q asked limit tags before left r
picks_left {Q} {asked} {limit} {tags} {before} {after} {left} {r} s p t h = subst (λ m. Picks Q asked limit tags before m r) (λ i. record { stack = s i; picks = p i; totals = t i }) h
