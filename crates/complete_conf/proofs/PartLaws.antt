-- Completing along a list of nodes: what is known stays, and members beside their choice change nothing.
use Rattle.std.proofs.Common.{◌≡◌, ℕ, ◌==◌, Bool, true, false, not, ◌&&◌, cond, List, [], ◌∷◌, ◌++◌, map, refl, ap, sym, ◌∙◌, subst, None, ◌⊎◌, inl, inr}
use Rattle.std.proofs.lemmas.Bool.{false≢true}
use Rattle.std.specs.Prelude.{is_some}
use Rattle.std.specs.List.{flat_map}
use Rattle.ut_logic.specs.declared.node.Node.{Node}
use Rattle.ut_logic.specs.declared.node.Node.TheVariants.{Sym, Choice, Block, State}
use Rattle.ut_logic.specs.Node.{node_eq}
use Rattle.ut_logic.specs.NodeIdentity.{node_eq-Decides}
use Rattle.kconf_tree.specs.Shape.{Shape, symbol_at, choice_at, is_member}
use Rattle.kconf_tree.specs.Value.{Configuration}
use Rattle.kconf_tree.specs.Valid.{calculated_of}
use Rattle.kconf_tree.specs.References.{symbol_references, choice_references, node_by, node_of, references_of}
use Rattle.kconf_tree.specs.Orders.{node_at, with_members}
use Rattle.complete_conf.specs.Free.{free_mode, picked_of, picked_value}
use Rattle.complete_conf.specs.Parts.{Part, AgreeOn}
use Rattle.complete_conf.specs.Completion.{with_value, with_choice, with_node, completed}
use Rattle.kconf_tree.specs.WellMade.{is_among, IsWellMade}
use Rattle.kconf_tree.proofs.Small.{or_left, or_right, or_cases, number_is, number_self, is_off}
use Rattle.node_order.proofs.SettleLaws.{among, settle_all}
use Rattle.complete_conf.proofs.NodeLaws.{IsFree, nodes_settle}

-- ---- what is known stays, along any list of nodes

agree_self : (p : Part) (c : Configuration) → AgreeOn p c c
agree_self p c = record { values = λ k h. refl; modes = λ i h. refl; outers = λ k. refl; undeclared = λ name. refl }

agree_then : (p : Part) (b c d : Configuration) → AgreeOn p b c → AgreeOn p c d → AgreeOn p b d
agree_then p b c d h g = record {
  values = λ k e. h.values k e ∙ g.values k e;
  modes = λ i e. h.modes i e ∙ g.modes i e;
  outers = λ k. h.outers k ∙ g.outers k;
  undeclared = λ name. h.undeclared name ∙ g.undeclared name;
}

kept_one : (t : Shape) (p : Part) (c : Configuration) (n : Node) → AgreeOn p c (with_node t p c n)
kept_one t p c (Sym k) = by (is_member t k) (p.symbol k) refl
  where
    other : (j : ℕ) → p.symbol j ≡ true → p.symbol k ≡ false → (b : Bool) → (k == j) ≡ b → c.value j ≡ cond b (calculated_of t c None k) (c.value j)
    other j h e false f = refl
    other j h e true f = absurd (false≢true (sym e ∙ (ap p.symbol (number_is k j f) ∙ h)))

    by : (m s : Bool) → p.symbol k ≡ s → AgreeOn p c (cond m c (cond s c (with_value c k (calculated_of t c None k))))
    by true s e = agree_self p c
    by false true e = agree_self p c
    by false false e = record { values = λ j h. other j h e (k == j) refl; modes = λ i h. refl; outers = λ j. refl; undeclared = λ name. refl }
kept_one t p c (Choice i) = record {
  values = λ j h. other (is_among (choice_at t i).members j) (p.symbol j) h (picked_value (picked_of t c i) j) (c.value j);
  modes = λ k h. other (i == k) (p.choice k) h (free_mode t c i) (c.mode k);
  outers = λ k. refl;
  undeclared = λ name. refl;
}
  where
    other : (a s : Bool) → s ≡ true → (x y : ℕ) → y ≡ cond (a && not s) x y
    other true true h x y = refl
    other false true h x y = refl
    other a false h x y = absurd (cc)
kept_one t p c (Block f b) = agree_self p c
kept_one t p c (State f n u) = agree_self p c

pub kept : (t : Shape) (p : Part) (c : Configuration) (ns : List Node) → AgreeOn p c (completed t p c ns)
kept t p c [] = agree_self p c
kept t p c (n ∷ ns) = agree_then p c (with_node t p c n) (completed t p (with_node t p c n) ns) (kept_one t p c n) (kept t p (with_node t p c n) ns)

-- ---- a choice with its members beside it is one step

pub completed_append : (t : Shape) (p : Part) (c : Configuration) (xs ys : List Node) → completed t p c (xs ++ ys) ≡ completed t p (completed t p c xs) ys
completed_append t p c [] ys = refl
completed_append t p c (x ∷ xs) ys = completed_append t p (with_node t p c x) xs ys

module _ (t : Shape) (p : Part) (made : IsWellMade t) where
  members_stay : (i : ℕ) (js : List ℕ) → ((j : ℕ) → is_among js j ≡ true → is_member t j ≡ true) → (c : Configuration) → completed t p c (map (λ k. Sym k) js) ≡ c
  members_stay i [] h c = refl
  members_stay i (j ∷ js) h c = ap (λ (x : Configuration). completed t p x (map (λ k. Sym k) js)) (ap (λ b. cond b c (cond (p.symbol j) c (with_value c j (calculated_of t c None j)))) (h j (or_left (j == j) (is_among js j) (number_self j))))
      ∙ members_stay i js (λ k g. h k (or_right (j == k) (is_among js k) g)) c

  beside : (n : Node) (c : Configuration) → completed t p c (with_members t n) ≡ with_node t p c n
  beside (Sym k) c = refl
  beside (Choice i) c = members_stay i (choice_at t i).members (λ j h. ap is_some (made.of_choice i j h)) (with_choice t p c i)
  beside (Block f b) c = refl
  beside (State f n u) c = refl

  -- the list of nodes with members beside them completes as that of the nodes
  pub without_members : (numbers : List ℕ) (c : Configuration) → completed t p c (flat_map (λ k. with_members t (node_at t k)) numbers) ≡ completed t p c (map (node_at t) numbers)
  without_members [] c = refl
  without_members (a ∷ numbers) c = completed_append t p c (with_members t (node_at t a)) (flat_map (λ k. with_members t (node_at t k)) numbers)
      ∙ (ap (λ (x : Configuration). completed t p x (flat_map (λ k. with_members t (node_at t k)) numbers)) (beside (node_at t a) c) ∙ without_members numbers (with_node t p c (node_at t a)))

  -- each node of the list is set in its turn
  pub all_steps : (ns : List Node) (c : Configuration) → completed t p c ns ≡ settle_all (with_node t p) (λ n. false) c ns
  all_steps [] c = refl
  all_steps (n ∷ ns) c = all_steps ns (with_node t p c n)

  -- ---- choices without members, to which nothing refers

  abbrev pub NoNode : Node → Type 0
  NoNode e = (k : ℕ) → node_of t k ≡ e → ⊥

  not_named : (e : Node) → NoNode e → (ks : List ℕ) → among node_eq (map (node_of t) ks) e ≡ false
  not_named e lone [] = refl
  not_named e lone (k ∷ ks) = rw (is_off (node_eq (node_of t k) e) (λ h. lone k ((node_eq-Decides (node_of t k) e).0 h)), not_named e lone ks) refl

  not_referred : (e : Node) → NoNode e → (n : Node) → among node_eq (references_of t n) e ≡ false
  not_referred e lone (Sym k) = not_named e lone (symbol_references t k)
  not_referred e lone (Choice i) = not_named e lone (choice_references t i)
  not_referred e lone (Block f b) = refl
  not_referred e lone (State f n u) = refl

  pub empties_free : (es : List Node) → ((e : Node) → among node_eq es e ≡ true → NoNode e) → (c : Configuration) → (n : Node) → (IsFree t p made c n ⊎ (among node_eq es n ≡ true))
      → IsFree t p made (settle_all (with_node t p) (λ m. false) c es) n
  empties_free [] lone c n (inl r) = r
  empties_free [] lone c n (inr h) = absurd (cc)
  empties_free (e ∷ es) lone c n h = empties_free es (λ m g. lone m (or_right (node_eq e m) (among node_eq es m) g)) (with_node t p c e) n (now h)
    where
      none : NoNode e
      none = lone e (or_left (node_eq e e) (among node_eq es e) ((node_eq-Decides e e).1 refl))

      here : IsFree t p made (with_node t p c e) e
      here = (nodes_settle t p made).settled c e (not_referred e none e)

      -- all that is free stays so
      step : (m : Node) → IsFree t p made c m → IsFree t p made (with_node t p c e) m
      step m r = same (node_eq e m) refl
        where
          kept_ref : (j : Node) → among node_eq (references_of t m) j ≡ true → node_eq e j ≡ false
          kept_ref j g = is_off (node_eq e j) (λ f. false≢true (sym (not_referred e none m) ∙ subst (λ (x : Node). among node_eq (references_of t m) x ≡ true) (sym ((node_eq-Decides e j).0 f)) g))

          same : (b : Bool) → node_eq e m ≡ b → IsFree t p made (with_node t p c e) m
          same true g = subst (λ (x : Node). IsFree t p made (with_node t p c e) x) ((node_eq-Decides e m).0 g) here
          same false g = (nodes_settle t p made).stays c (with_node t p c e) m ((nodes_settle t p made).apart c e m g) (λ j f. (nodes_settle t p made).apart c e j (kept_ref j f)) r

      now : (IsFree t p made c n ⊎ (among node_eq (e ∷ es) n ≡ true)) → IsFree t p made (with_node t p c e) n ⊎ (among node_eq es n ≡ true)
      now (inl r) = inl (step n r)
      now (inr i) = elim (or_cases (node_eq e n) (among node_eq es n) i) [
        | inl x ↦ inl (subst (λ (m : Node). IsFree t p made (with_node t p c e) m) ((node_eq-Decides e n).0 x) here)
        | inr x ↦ inr x
      ]
