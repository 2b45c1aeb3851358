-- What is settled of machines for an automaton is settled for each that accepts the same lists.
use Rattle.std.proofs.Common.{◌≡◌, ℕ, List, [], ◌∷◌, ◌++◌, reverse, sym, ◌∙◌, subst}
use mathlib.Core.List.{reverse-cons}
use Rattle.automata.specs.Automata.{Automaton, Word, accepts}
use Rattle.automata.specs.Machines.{NoMachineServes, MachineServes}
use Rattle.automata.specs.Streams.{Rest, Document, opened, path, Machine, Finite, Errs}
use Rattle.automata.specs.declared.tag.Tag.{Tag}
use Rattle.automata.specs.declared.tag.Tag.TheVariants.{Open, Close}
use Rattle.automata.proofs.Words.{word_append}

word_reverse : (n : ℕ) (w : List ℕ) → Word n w → Word n (reverse w)
word_reverse n [] h = h
word_reverse n (a ∷ w) (h, k) = subst (Word n) (sym (reverse-cons a w)) (word_append n (reverse w) (a ∷ []) (word_reverse n w k) (h, tt))

-- the labels that are open at an opening are below n
opened_word : (n : ℕ) (stack : List ℕ) (ts : List (Tag ℕ)) (a : ℕ) (us : List (Tag ℕ)) → Rest n stack (ts ++ Open a ∷ us) → Word n stack → Word n (opened stack (ts ++ Open a ∷ []))
opened_word n [] [] a us rest word = absurd rest
opened_word n [] (t ∷ ts) a us rest word = absurd rest
opened_word n (b ∷ stack) [] a us (h, rest) word = (h, word)
opened_word n (b ∷ stack) (Open c ∷ ts) a us (h, rest) word = opened_word n (c ∷ b ∷ stack) ts a us rest (h, word)
opened_word n (b ∷ stack) (Close c ∷ ts) a us (h, rest) word = opened_word n stack ts a us rest word.1

-- the path to an element of a document is a word over the document's labels
pub path_word : (n : ℕ) (ts : List (Tag ℕ)) (a : ℕ) (us : List (Tag ℕ)) → Document n (ts ++ Open a ∷ us) → Word n (path (ts ++ Open a ∷ []))
path_word n [] a us (h, rest) = word_reverse n (a ∷ []) (h, tt)
path_word n (Open b ∷ ts) a us (h, rest) = word_reverse n (opened (b ∷ []) (ts ++ Open a ∷ [])) (opened_word n (b ∷ []) ts a us rest (h, tt))
path_word n (Close b ∷ ts) a us h = absurd h

module _ (A B : Automaton) (labels : B.labels ≡ A.labels) (same : (w : List ℕ) → Word A.labels w → accepts B w ≡ accepts A w) where
  word_at : (d : List (Tag ℕ)) → Document A.labels d → {M : Machine} {C : Automaton} (e : Errs C M d) → Word A.labels (path (e.before ++ Open e.opens ∷ []))
  word_at d document e = path_word A.labels e.before e.opens e.after (subst (Document A.labels) e.splits document)

  errs_there : (M : Machine) (d : List (Tag ℕ)) → Document A.labels d → Errs B M d → Errs A M d
  errs_there M d document e = record {
    before = e.before;
    opens = e.opens;
    after = e.after;
    splits = e.splits;
    differs = λ k. e.differs (k ∙ sym (same (path (e.before ++ Open e.opens ∷ [])) (word_at d document e)));
  }

  errs_back : (M : Machine) (d : List (Tag ℕ)) → Document A.labels d → Errs A M d → Errs B M d
  errs_back M d document e = record {
    before = e.before;
    opens = e.opens;
    after = e.after;
    splits = e.splits;
    differs = λ k. e.differs (k ∙ same (path (e.before ++ Open e.opens ∷ [])) (word_at d document e));
  }

  pub no_machine_alike : NoMachineServes B → NoMachineServes A
  no_machine_alike none M finite =
      let found = none M (subst (λ n. Finite n M) (sym labels) finite) in
      let document = subst (λ n. Document n found.0) labels found.1 in
      (found.0, document, errs_there M found.0 document found.2)

  pub machine_alike : MachineServes B → MachineServes A
  machine_alike s = record {
    machine = s.machine;
    finite = subst (λ n. Finite n s.machine) labels s.finite;
    right = λ d document e. s.right d (subst (λ n. Document n d) (sym labels) document) (errs_back s.machine d document e);
  }
