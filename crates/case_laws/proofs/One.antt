-- A question has one list of needed nodes, of items, and of clauses.
use Rattle.std.proofs.Common.{◌≡◌, ℕ, ◌<◌, true, not, List, [], ◌∷◌, filter, All, refl, ap, sym, subst, ◌∙◌, arith}
use Rattle.std.specs.List.{AllZip, Contains}
use Rattle.std.specs.List.Sorted.{IsStrictlySortedBy}
use Rattle.std.specs.Ordering.{is_eq}
use Rattle.std.specs.declared.cmp.Ordering.TheVariants.{Less}
use Rattle.std.proofs.lemmas.Bool.{false≢true}
use Rattle.std.proofs.lemmas.Cmp.{eq_by_cmp_equiv}
use Rattle.std.proofs.lemmas.List.Elements.{All-contains}
use Rattle.std.proofs.lemmas.Map.Keys.{sorted_head, sorted_tail}
use Rattle.ut_logic.specs.declared.item.Item.{Item}
use Rattle.ut_logic.specs.declared.node.Node.{Node}
use Rattle.ut_logic.specs.declared.literals.Lit.{Lit}
use Rattle.ut_logic.specs.Assign.{is_in}
use Rattle.ut_logic.specs.Item.{item_cmp, item_eq, item_total}
use Rattle.ut_logic.specs.ItemIdentity.{item_eq-Decides}
use Rattle.ut_logic.specs.Node.{node_cmp, node_total}
use Rattle.ut_logic.specs.Variables.{AreInOrder}
use Rattle.clausify.specs.Form.{Form}
use Rattle.clausify.specs.Tidy.{is_lit, has_lit, has_both_signs, IsTidy, AreTidy}
use Rattle.clausify.proofs.TidyLaws.{lit_same, lit_itself}
use Rattle.ut_case.specs.ClauseForms.{AreClauses, form_for}
use Rattle.ut_case.specs.Needs.{AreNeeds, AreItems}
use Rattle.ut_case.specs.Problem.{Problem}
use Rattle.ut_case.specs.Questions.{Question}
use Rattle.case_laws.proofs.OneList.{In, Rising, one_list, in_contains, contains_in, in_any, any_in, rising_pairs}

-- ---- nodes

rising_nodes : (nodes : List Node) → IsStrictlySortedBy node_cmp nodes → Rising (λ (a b : Node). node_cmp a b ≡ Less) nodes
rising_nodes [] h = tt
rising_nodes (n ∷ ns) h = (sorted_head node_cmp n ns h, rising_nodes ns (sorted_tail node_cmp n ns h))

node_never : (n : Node) → node_cmp n n ≡ Less → ⊥
node_never n h = false≢true (sym (ap is_eq h) ∙ (eq_by_cmp_equiv node_total).refl n)

-- what the one has the other has
within : (us vs : List Node) → All (Contains vs) us → (n : Node) → In us n → In vs n
within us vs h n g = in_contains vs n (All-contains (Contains vs) us n h (contains_in us n g))

pub one_nodes : (p : Problem) (q : Question) (xs ys : List Node) → AreNeeds p q xs → AreNeeds p q ys → xs ≡ ys
one_nodes p q xs ys a b = one_list (λ (m n : Node). node_cmp m n ≡ Less) node_never node_total.trans xs ys (rising_nodes xs a.sorted) (rising_nodes ys b.sorted)
    (λ n h. within xs ys (a.least.least ys b.least.rooted b.least.closed) n h) (λ n h. within ys xs (b.least.least xs a.least.rooted a.least.closed) n h)

-- ---- items

item_never : (i : Item) → item_cmp i i ≡ Less → ⊥
item_never i h = false≢true (sym (ap is_eq h) ∙ (eq_by_cmp_equiv item_total).refl i)

-- an item that the one list has, where both say the same of each
also_in : (xs ys : List Item) → ((i : Item) → is_in xs i ≡ is_in ys i) → (i : Item) → In xs i → In ys i
also_in xs ys same i h = in_any (λ x. item_eq x i) i finds itself ys (sym (same i) ∙ any_in (λ x. item_eq x i) i finds itself xs h)
  where
    finds : (x : Item) → item_eq x i ≡ true → x ≡ i
    finds x e = (item_eq-Decides x i).0 e

    itself : item_eq i i ≡ true
    itself = (item_eq-Decides i i).1 refl

pub one_items : (xs ys : List Item) → AreInOrder xs → AreInOrder ys → ((i : Item) → is_in xs i ≡ is_in ys i) → xs ≡ ys
one_items xs ys up vp same = one_list (λ (a b : Item). item_cmp a b ≡ Less) item_never item_total.trans xs ys (rising_pairs (λ (a b : Item). item_cmp a b ≡ Less) xs up) (rising_pairs (λ (a b : Item). item_cmp a b ≡ Less) ys vp)
    (also_in xs ys same) (also_in ys xs (λ i. sym (same i)))

-- ---- clauses

lit_never : (l : Lit) → l.var < l.var → ⊥
lit_never l h = omega (arith, h)

lit_on : (a b c : Lit) → a.var < b.var → b.var < c.var → a.var < c.var
lit_on a b c h g = omega (arith, h, g)

-- a literal that the one list has
also_lit : (xs ys : List Lit) → ((l : Lit) → has_lit xs l ≡ has_lit ys l) → (l : Lit) → In xs l → In ys l
also_lit xs ys same l h = in_any (is_lit l) l finds (lit_itself l) ys (sym (same l) ∙ any_in (is_lit l) l finds (lit_itself l) xs h)
  where
    finds : (x : Lit) → is_lit l x ≡ true → x ≡ l
    finds x e = sym (lit_same l x e)

one_clause : (ls c d : List Lit) → IsTidy ls c → IsTidy ls d → c ≡ d
one_clause ls c d a b = one_list (λ (x y : Lit). x.var < y.var) lit_never lit_on c d (rising_pairs (λ (x y : Lit). x.var < y.var) c a.ordered) (rising_pairs (λ (x y : Lit). x.var < y.var) d b.ordered)
    (also_lit c d (λ l. a.same l ∙ sym (b.same l))) (also_lit d c (λ l. b.same l ∙ sym (a.same l)))

one_each : (kept cs ds : List (List Lit)) → AllZip IsTidy kept cs → AllZip IsTidy kept ds → cs ≡ ds
one_each [] [] [] a b = refl
one_each [] [] (d ∷ ds) a b = absurd b
one_each [] (c ∷ cs) ds a b = absurd a
one_each (k ∷ kept) [] ds a b = absurd a
one_each (k ∷ kept) (c ∷ cs) [] a b = absurd b
one_each (k ∷ kept) (c ∷ cs) (d ∷ ds) a b = let e = one_clause k c d a.0 b.0 in let rest = one_each kept cs ds a.1 b.1 in λ i. e i ∷ rest i

pub one_tidy : (written cs ds : List (List Lit)) → AreTidy written cs → AreTidy written ds → cs ≡ ds
one_tidy written cs ds a b = one_each (filter (λ ls. not (has_both_signs ls)) written) cs ds a b

-- ---- the clauses of a question

module _ (p : Problem) (q : Question) where
  same_items : (m n : List Node) (xs ys : List Item) → m ≡ n → AreItems p q m xs → AreItems p q n ys → xs ≡ ys
  same_items m n xs ys e a b = let moved = subst (λ (ns : List Node). AreItems p q ns xs) e a in
      one_items xs ys moved.ordered b.ordered (λ i. moved.exact i ∙ sym (b.exact i))

  pub one_form : (items others : List Item) (vars n : ℕ) (clauses more : List (List Lit)) → AreClauses p q items vars clauses → AreClauses p q others n more
      → (items ≡ others) × (vars ≡ n) × (clauses ≡ more)
  one_form items others vars n clauses more a b = (
    at,
    a.count ∙ (ap (λ (f : Form). f.vars) form ∙ sym b.count),
    one_tidy (form_for p q b.nodes others).clauses clauses more (subst (λ (f : Form). AreTidy f.clauses clauses) form a.written) b.written,
  )
    where
      nodes : a.nodes ≡ b.nodes
      nodes = one_nodes p q a.nodes b.nodes a.needs b.needs

      at : items ≡ others
      at = same_items a.nodes b.nodes items others nodes a.named b.named

      form : form_for p q a.nodes items ≡ form_for p q b.nodes others
      form = λ i. form_for p q (nodes i) (at i)
