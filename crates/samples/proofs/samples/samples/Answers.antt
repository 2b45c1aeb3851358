-- Each path as it is written, words that lead to all of its sets, and why it has its grade.
use Rattle.std.proofs.Common.{true, false, not, ◌&&◌, eqb, [], ◌∷◌, get_or, codes, refl, true≢false, arith}
use mathlib.Core.Bool.{false≢true}
use Rattle.automata.specs.Automata.{accepts}
use Rattle.automata.specs.Holding.{meaning as held_meaning, moves as held_moves}
use Rattle.automata.specs.Noted.{meaning as noted_meaning, moves as noted_moves}
use Rattle.automata.proofs.Holding.{holding_rules}
use Rattle.automata.proofs.Noting.{noting_rules}
use Rattle.base.specs.Tables.{automaton}
use Rattle.grading.specs.Holding.{holding, Begins as HeldBegins}
use Rattle.grading.specs.Noting.{noting, Begins as NotedBegins}
use Rattle.grading.specs.declared.grade.Grade.TheVariants.{Registerless, Stackless, Neither}
use Rattle.samples.specs.Samples.{ab, abc, going_back, between}
use Rattle.samples.proofs.Judging.{distinct_by, registerless_by, stackless_by, unlike}
use Rattle.samples.proofs.Runs.{back_booked, between_booked}
use Rattle.samples.proofs.Sampling.{has_states, has_grade, has_none, accepts_by, path_reads, all_words, first_words}
use Rattle.samples.proofs.Tables.{turning_graded, idle_graded}
use Rattle.samples.proofs.samples.samples.Goals as goal

pub returns : goal.returns
returns c = record {
  child_below = has_grade abc ((false, codes "a") ∷ (true, codes "b") ∷ []) ([] ∷ (0 ∷ []) ∷ (1 ∷ []) ∷ (0 ∷ 1 ∷ []) ∷ []) refl (refl, refl) (record { some = refl; start = refl; inside = refl; next = refl; all = refl }) 4 refl (omega arith) Registerless (λ f. record {
    distinct = distinct_by _ f ([] ∷ (1 ∷ []) ∷ (0 ∷ 1 ∷ []) ∷ []) refl;
    earned = registerless_by _ f (λ p. not (eqb p 0)) (λ p q. (not (eqb p 0) && not (eqb q 0)) && unlike (eqb p 2) (eqb q 2)) refl refl refl;
  });
  child_child = has_grade abc ((false, codes "a") ∷ (false, codes "b") ∷ []) ([] ∷ (0 ∷ []) ∷ (1 ∷ []) ∷ (0 ∷ 1 ∷ []) ∷ []) refl (refl, refl) (record { some = refl; start = refl; inside = refl; next = refl; all = refl }) 4 refl (omega arith) Stackless (λ f. record {
    distinct = distinct_by _ f ([] ∷ (1 ∷ []) ∷ (0 ∷ 1 ∷ []) ∷ []) refl;
    earned = (
      record {
        p = 1;
        q = 2;
        p_internal = record { first = 0; rest = []; word = (omega arith, tt); leads = refl };
        q_internal = record { first = 1; rest = []; word = (omega arith, tt); leads = refl };
        meet = record { by = 0 ∷ []; word = (omega arith, tt); same = refl };
        apart = record { first = 1; rest = []; word = (omega arith, tt); differ = true≢false };
      },
      stackless_by _ f (λ p. get_or (0 ∷ 1 ∷ 3 ∷ 2 ∷ []) p 0) refl refl,
    );
  });
  below_below = has_grade abc ((true, codes "a") ∷ (true, codes "b") ∷ []) ([] ∷ (0 ∷ []) ∷ (0 ∷ 1 ∷ []) ∷ []) refl (refl, refl) (record { some = refl; start = refl; inside = refl; next = refl; all = refl }) 3 refl (omega arith) Stackless (λ f. record {
    distinct = distinct_by _ f ([] ∷ (1 ∷ []) ∷ []) refl;
    earned = (
      record {
        p = 0;
        q = 1;
        p_internal = record { first = 1; rest = []; word = (omega arith, tt); leads = refl };
        q_internal = record { first = 0; rest = []; word = (omega arith, tt); leads = refl };
        meet = record { by = 0 ∷ []; word = (omega arith, tt); same = refl };
        apart = record { first = 1; rest = []; word = (omega arith, tt); differ = false≢true };
      },
      stackless_by _ f (λ p. get_or (0 ∷ 1 ∷ 1 ∷ []) p 0) refl refl,
    );
  });
  below_child = has_grade abc ((true, codes "a") ∷ (false, codes "b") ∷ []) ([] ∷ (0 ∷ []) ∷ (0 ∷ 1 ∷ []) ∷ []) refl (refl, refl) (record { some = refl; start = refl; inside = refl; next = refl; all = refl }) 3 refl (omega arith) Neither (λ f. record {
    distinct = distinct_by _ f ([] ∷ (1 ∷ []) ∷ []) refl;
    earned = (
      record {
        p = 0;
        q = 1;
        p_internal = record { first = 1; rest = []; word = (omega arith, tt); leads = refl };
        q_internal = record { first = 0; rest = []; word = (omega arith, tt); leads = refl };
        meet = record { by = 0 ∷ []; word = (omega arith, tt); same = refl };
        apart = record { first = 1; rest = []; word = (omega arith, tt); differ = false≢true };
      },
      record {
        p = 0;
        q = 1;
        p_below = omega arith;
        q_below = omega arith;
        together = record { there = record { by = 0 ∷ []; word = (omega arith, tt); leads = refl }; back = record { by = 2 ∷ []; word = (omega arith, tt); leads = refl } };
        meet = record {
          by = 0 ∷ [];
          word = (omega arith, tt);
          same = refl;
          inside = record { there = record { by = 0 ∷ []; word = (omega arith, tt); leads = refl }; back = record { by = 2 ∷ []; word = (omega arith, tt); leads = refl } };
        };
        apart = record { first = 1; rest = []; word = (omega arith, tt); differ = false≢true };
      },
    );
  });
  full = has_states ab ((true, codes "a") ∷ (false, codes "*") ∷ (false, codes "*") ∷ (false, codes "*") ∷ (false, codes "*") ∷ []) (first_words 5) refl (refl, refl) (record { some = refl; start = refl; inside = refl; next = refl; all = refl }) 32 refl (omega arith);
  over = has_none ab ((true, codes "a") ∷ (false, codes "*") ∷ (false, codes "*") ∷ (false, codes "*") ∷ (false, codes "*") ∷ (false, codes "*") ∷ []) (all_words 6) refl (refl, refl) (omega arith);
  child_below_run = path_reads abc ((false, codes "a") ∷ (true, codes "b") ∷ []) ([] ∷ (0 ∷ []) ∷ (1 ∷ []) ∷ (0 ∷ 1 ∷ []) ∷ []) refl (held_meaning holding) (held_moves holding) (holding_rules holding) (λ s. automaton s.table) HeldBegins (λ A s b. b.minimised) (λ s. refl) going_back (2 ∷ []) 3 false (λ A B c m.
      let at = accepts_by abc ((false, codes "a") ∷ (true, codes "b") ∷ []) ([] ∷ (0 ∷ []) ∷ (1 ∷ []) ∷ (0 ∷ 1 ∷ []) ∷ []) (refl, refl) (record { some = refl; start = refl; inside = refl; next = refl; all = refl }) (omega arith) A B c m in
      back_booked (accepts B) (at (0 ∷ []) refl) (at (0 ∷ 0 ∷ []) refl) (at (0 ∷ 1 ∷ []) refl));
  child_child_run = path_reads abc ((false, codes "a") ∷ (false, codes "b") ∷ []) ([] ∷ (0 ∷ []) ∷ (1 ∷ []) ∷ (0 ∷ 1 ∷ []) ∷ []) refl (noted_meaning noting) (noted_moves noting) (noting_rules noting) (λ s. automaton s.table) NotedBegins (λ A s b. b.minimised) (λ s. refl) between (2 ∷ 4 ∷ []) 5 true (λ A B c m.
      let at = accepts_by abc ((false, codes "a") ∷ (false, codes "b") ∷ []) ([] ∷ (0 ∷ []) ∷ (1 ∷ []) ∷ (0 ∷ 1 ∷ []) ∷ []) (refl, refl) (record { some = refl; start = refl; inside = refl; next = refl; all = refl }) (omega arith) A B c m in
      between_booked (accepts B) (at (0 ∷ []) refl) (at (0 ∷ 2 ∷ []) refl) (at (0 ∷ 1 ∷ []) refl) (at (0 ∷ 1 ∷ 2 ∷ []) refl));
  turning_table = turning_graded;
  idle_table = idle_graded;
}
