-- Free starts are as what is handed in is to be.
use Rattle.std.proofs.Common.{◌≡◌, inl, ℕ, ◌+◌, suc, true, not, ◌&&◌, List, [], ◌∷◌, ◌++◌, length, eqb, refl, sym, ap, ◌∙◌, subst, rules, arith}
use Rattle.std.specs.List.{All, list_all}
use Rattle.std.proofs.lemmas.Bool.{false≢true}
use Rattle.std.proofs.lemmas.Bool.Decides.{nat_tests}
use Rattle.ut_logic.specs.declared.item.Item.{Item}
use Rattle.ut_logic.specs.declared.item.Item.TheVariants.{StartD, StartT}
use Rattle.ut_logic.specs.declared.node.Node.{Node}
use Rattle.ut_logic.specs.Assign.{is_in}
use Rattle.ut_logic.specs.declared.formula.Formula.{Formula, out-Formula}
use Rattle.ut_logic.specs.declared.formula.Formula.TheOpen.{Formula-F}
use Rattle.ut_logic.specs.declared.formula.Formula.TheVariants.{Yes, Is}
use Rattle.ut_logic.specs.declared.formula.Formula.TheViews.{the_lemmas}
use Rattle.ut_logic.proofs.MentionLaws.{mentioned-Yes, mentioned-Is}
use Rattle.cpp_blocks.specs.declared.starts.BuiltOf.{BuiltOf}
use Rattle.cpp_blocks.specs.declared.starts.StartOf.{StartOf}
use Rattle.cpp_blocks.specs.Facts.{is_free, is_free_at, is_of_run, is_outside, Implies, AreStarts}
use Rattle.cpp_blocks.specs.Nodes.{IsListedBy, IsListedFormula, IsListedStart, IsListedBuilt, IsOfTree}
use Rattle.cpp_blocks.proofs.Listing.{says_none, says_is, in_first, in_later}

starts_push : (file k : ℕ) (ss : List StartOf) (s : StartOf) → AreStarts file k ss → is_outside s.d ≡ true → is_outside s.t ≡ true → Implies file (k + length ss) s → AreStarts file k (ss ++ s ∷ [])
starts_push file k [] s a od ot i = let at : k + 0 ≡ k = omega arith in (od, ot, subst (λ n. Implies file n s) at i, tt)
starts_push file k (x ∷ ss) s a od ot i = let at : k + suc (length ss) ≡ suc k + length ss = omega arith in
    (a.0, a.1, a.2, starts_push file (suc k) ss s a.3 od ot (subst (λ n. Implies file n s) at i))

outside_item : (i : Item) → not (is_of_run i) ≡ true → is_outside (Is i) ≡ true
outside_item i h = ap (list_all (λ x. not (is_of_run x))) (mentioned-Is i) ∙ ap (λ b. b && true) h

same_number : (n : ℕ) → eqb n n ≡ true
same_number n = grind (arith, nat_tests)

item_layer : (i : Item) → out-Formula (Is i) ≡ Formula-F.Is i
item_layer i = search (rules, the_lemmas)

free_is : (file n : ℕ) (s : StartOf) → s.d ≡ Is (StartD file n) → is_free file n s ≡ true
free_is file n s e = ap (λ f. is_free_at file n (out-Formula f)) e ∙ (ap (is_free_at file n) (item_layer (StartD file n)) ∙ (λ i. same_number file i && same_number n i))

-- one more free start
pub free_push : (file : ℕ) (ss : List StartOf) (s : StartOf) (n : ℕ) → AreStarts file 0 ss → n ≡ length ss → s.d ≡ Is (StartD file n) → s.t ≡ Is (StartT file n) → AreStarts file 0 (ss ++ s ∷ [])
free_push file ss s n a e d t = let at : n ≡ 0 + length ss = omega arith in
    starts_push file 0 ss s a (ap is_outside d ∙ outside_item (StartD file n) refl) (ap is_outside t ∙ outside_item (StartT file n) refl)
    (subst (λ m. Implies file m s) at (λ f. absurd (false≢true (sym f ∙ free_is file n s d))))

-- a free start lists its items
pub free_listed : (file n : ℕ) (s : StartOf) → s.d ≡ Is (StartD file n) → s.t ≡ Is (StartT file n) → s.names ≡ [] → s.items ≡ StartD file n ∷ StartT file n ∷ [] → IsListedStart s
free_listed file n s d t names items = record {
  nodes = subst (λ (ns : List Node). All IsOfTree ns) (sym names) (λ k x l. absurd (omega arith));
  d = subst (λ (f : Formula). IsListedFormula s.names s.items f) (sym d) (says_is (IsListedBy s.names s.items) (StartD file n)
      (inl (refl, subst (λ (is : List Item). is_in is (StartD file n) ≡ true) (sym items) (in_first (StartD file n) (StartT file n ∷ [])))));
  t = subst (λ (f : Formula). IsListedFormula s.names s.items f) (sym t) (says_is (IsListedBy s.names s.items) (StartT file n)
      (inl (refl, subst (λ (is : List Item). is_in is (StartT file n) ≡ true) (sym items) (in_later (StartT file n) (StartD file n) (StartT file n ∷ []) (in_first (StartT file n) [])))));
}

-- a source that is built in any case lists nothing
pub yes_listed : (b : BuiltOf) → b.formula ≡ Yes → b.names ≡ [] → IsListedBuilt b
yes_listed b f names = record {
  nodes = subst (λ (ns : List Node). All IsOfTree ns) (sym names) (λ k x l. absurd (omega arith));
  formula = subst (λ (x : Formula). IsListedFormula b.names b.items x) (sym f) (says_none (IsListedBy b.names b.items) Yes mentioned-Yes);
}
