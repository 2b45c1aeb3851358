-- The words are for the lowest pair that clashes.
use Rattle.std.proofs.Common.{subst}
use Rattle.automata.specs.Grades.{LowestClash}
use Rattle.automata.proofs.Words.{internal_below}
use Rattle.base.specs.Tables.{automaton}
use Rattle.grading.specs.Words.{labels_of}
use Rattle.grading.proofs.Agreeing.{well_formed}
use Rattle.grading.proofs.Showing.{meet_brought, meet_shortest, apart_brought, apart_shortest}
use Rattle.grading.proofs.clash.clash_of.Goals as goal

pub invariant_of-pair : goal.invariant_of-pair
invariant_of-pair c =
    let t = c.args.table.now in
    let x = c.in_ok-lowest.lowest in
    let k = (subst (λ t. LowestClash (automaton t) x.first x.second) c.of.ensures c.in_ok-lowest.ensures).clashing in
    record { inside = (internal_below (automaton t) (well_formed t) k.p_internal, internal_below (automaton t) (well_formed t) k.q_internal) }

pub shortest-requires : goal.shortest-requires
shortest-requires c =
    let t = c.args.table.now in
    let A = automaton t in
    let x = c.in_ok-lowest.lowest in
    let low = subst (λ t. LowestClash (automaton t) x.first x.second) c.of.ensures c.in_ok-lowest.ensures in
    let k = low.clashing in
    meet_brought A x.first x.second k.meet k.apart

pub shortest-requires-2 : goal.shortest-requires-2
shortest-requires-2 c =
    let t = c.args.table.now in
    let A = automaton t in
    let x = c.in_ok-lowest.lowest in
    let low = subst (λ t. LowestClash (automaton t) x.first x.second) c.of.ensures c.in_ok-lowest.ensures in
    let k = low.clashing in
    let l = internal_below A (well_formed t) k.p_internal in
    let m = internal_below A (well_formed t) k.q_internal in
    (apart_brought A x.first x.second (well_formed t) l m c.of-2.result.yes c.of-2.result.no c.of-2.ensures.0 c.of-2.ensures.1 k.apart)

pub returns : goal.returns
returns c =
    let t = c.args.table.now in
    let A = automaton t in
    let x = c.in_ok-lowest.lowest in
    let low = subst (λ t. LowestClash (automaton t) x.first x.second) c.of.ensures c.in_ok-lowest.ensures in
    let l = internal_below A (well_formed t) low.clashing.p_internal in
    let m = internal_below A (well_formed t) low.clashing.q_internal in
    record {
      p = x.first;
      q = x.second;
      lowest = low;
      first = c.word_to.ensures;
      second = c.word_to-2.ensures;
      meet = meet_shortest A x.first x.second (labels_of c.shortest.result) c.shortest.ensures;
      apart = apart_shortest A x.first x.second (well_formed t) l m c.of-2.result.yes c.of-2.result.no c.of-2.ensures.0 c.of-2.ensures.1 (labels_of c.shortest-2.result) c.shortest-2.ensures;
    }
