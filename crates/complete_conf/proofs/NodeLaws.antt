-- The laws of each kind of node for completing along an order: a node that is set has afterwards what it has without a
-- user's setting, whatever what it refers to holds; and that stays so while it and what it refers to keep their values.
use Rattle.std.proofs.Common.{◌≡◌, ℕ, ◌==◌, Bool, true, false, not, ◌&&◌, ◌||◌, cond, List, [], ◌∷◌, map, refl, ap, sym, ◌∙◌, subst, Option, None, Some}
use Rattle.std.specs.Prelude.{is_some}
use Rattle.ut_logic.specs.declared.node.Node.{Node}
use Rattle.ut_logic.specs.declared.node.Node.TheVariants.{Sym, Choice, Block, State}
use Rattle.ut_logic.specs.Node.{node_eq}
use Rattle.ut_logic.specs.NodeIdentity.{node_eq-Decides}
use Rattle.kconf_tree.specs.Shape.{Shape, symbol_at, choice_at, is_member}
use Rattle.kconf_tree.specs.Value.{Configuration}
use Rattle.kconf_tree.specs.Valid.{calculated_of}
use Rattle.kconf_tree.specs.References.{symbol_references, choice_references, node_by, node_of, references_of}
use Rattle.complete_conf.specs.Free.{free_mode, picked_of, picked_value}
use Rattle.complete_conf.specs.Completion.{with_value, with_choice, with_node}
use Rattle.complete_conf.specs.Parts.{Part}
use Rattle.kconf_tree.specs.WellMade.{is_among, IsWellMade}
use Rattle.kconf_tree.proofs.Small.{or_left, or_right, or_left_false, or_right_false, number_is, number_self, is_off}
use Rattle.kconf_tree.proofs.ValueLaws.{Agree, Alike, alike_same, alike_then}
use Rattle.kconf_tree.proofs.LookLaws.{alike_in, calculated_same}
use Rattle.node_order.proofs.SettleLaws.{among, Settles}
use Rattle.complete_conf.proofs.FreeSame.{free_mode_same, picked_same}

-- ---- small facts

node_is : (m n : Node) → node_eq m n ≡ true → m ≡ n
node_is m n h = (node_eq-Decides m n).0 h

node_self : (n : Node) → node_eq n n ≡ true
node_self n = (node_eq-Decides n n).1 refl

other : (x y : ℕ) (b : Bool) → b ≡ false → y ≡ cond b x y
other x y true e = absurd (cc)
other x y false e = refl

-- likewise where it isn't set, or is known
other_and : (x y : ℕ) (b s : Bool) → b ≡ false → y ≡ cond (b && not s) x y
other_and x y true s e = absurd (cc)
other_and x y false s e = refl

is_none : (o : Option ℕ) → is_some o ≡ false → o ≡ None
is_none None h = refl
is_none (Some i) h = absurd (cc)

module _ (t : Shape) (p : Part) (made : IsWellMade t) where
  -- ---- what a node keeps

  pub record KeepsChoice (c d : Configuration) (i : ℕ) : Type 0 where
    pub alike : Alike c d
    pub mode : c.mode i ≡ d.mode i
    pub members : (j : ℕ) → is_among (choice_at t i).members j ≡ true → c.value j ≡ d.value j

  pub record KeepsSymbol (c d : Configuration) (k : ℕ) : Type 0 where
    pub alike : Alike c d
    pub own : is_member t k ≡ false → c.value k ≡ d.value k

  abbrev pub Keeps : Configuration → Configuration → Node → Type 0
  Keeps c d (Sym k) = KeepsSymbol c d k
  Keeps c d (Choice i) = KeepsChoice c d i
  Keeps c d (Block f b) = Alike c d
  Keeps c d (State f n u) = Alike c d

  -- ---- what a node has without a user's setting, where it isn't known

  pub record IsFreeSymbol (c : Configuration) (k : ℕ) : Type 0 where
    pub value : is_member t k ≡ false → p.symbol k ≡ false → c.value k ≡ calculated_of t c None k

  pub record IsFreeChoice (c : Configuration) (i : ℕ) : Type 0 where
    pub mode : p.choice i ≡ false → c.mode i ≡ free_mode t c i
    pub members : (j : ℕ) → is_among (choice_at t i).members j ≡ true → p.symbol j ≡ false → c.value j ≡ picked_value (picked_of t c i) j

  abbrev pub IsFree : Configuration → Node → Type 0
  IsFree c (Sym k) = IsFreeSymbol c k
  IsFree c (Choice i) = IsFreeChoice c i
  IsFree c (Block f b) = Unit {0}
  IsFree c (State f n u) = Unit {0}

  alike_kept : (c d : Configuration) (n : Node) → Keeps c d n → Alike c d
  alike_kept c d (Sym k) h = h.alike
  alike_kept c d (Choice i) h = h.alike
  alike_kept c d (Block f b) h = h
  alike_kept c d (State f n u) h = h

  -- a kept node keeps the values that are named
  node_value : (c d : Configuration) (k : ℕ) → Keeps c d (node_of t k) → c.value k ≡ d.value k
  node_value c d k h = by (symbol_at t k).member_of refl h
    where
      by : (o : Option ℕ) → (symbol_at t k).member_of ≡ o → Keeps c d (node_by k o) → c.value k ≡ d.value k
      by None e g = g.own (ap is_some e)
      by (Some i) e g = g.members k (made.listed i k e)

  agree_nodes : (c d : Configuration) (ks : List ℕ) → ((n : Node) → among node_eq (map (node_of t) ks) n ≡ true → Keeps c d n) → Agree c d ks
  agree_nodes c d [] h = tt
  agree_nodes c d (k ∷ ks) h = (node_value c d k (h (node_of t k) (or_left (node_eq (node_of t k) (node_of t k)) (among node_eq (map (node_of t) ks) (node_of t k)) (node_self (node_of t k)))), agree_nodes c d ks (λ n g. h n (or_right (node_eq (node_of t k) n) (among node_eq (map (node_of t) ks) n) g)))

  -- ---- a symbol

  -- two configurations with the same values but at k, which isn't among the numbers
  not_itself : (c : Configuration) (k x : ℕ) → is_member t k ≡ false → (js : List ℕ) → among node_eq (map (node_of t) js) (Sym k) ≡ false → Agree c (with_value c k x) js
  not_itself c k x own [] h = tt
  not_itself c k x own (j ∷ js) h = (other x (c.value j) (k == j) (is_off (k == j) clash), not_itself c k x own js (or_right_false (node_eq (node_of t j) (Sym k)) (among node_eq (map (node_of t) js) (Sym k)) h))
    where
      clash : (k == j) ≡ true → ⊥
      clash e = let there : node_of t j ≡ Sym k = ap (node_of t) (sym (number_is k j e)) ∙ ap (node_by k) (is_none (symbol_at t k).member_of own) in
          let hit : node_eq (node_of t j) (Sym k) ≡ true = (node_eq-Decides (node_of t j) (Sym k)).1 there in
          let off = or_left_false (node_eq (node_of t j) (Sym k)) (among node_eq (map (node_of t) js) (Sym k)) h in
          cc

  -- a symbol that is set
  abbrev set_symbol : Configuration → ℕ → Configuration
  set_symbol c k = with_value c k (calculated_of t c None k)

  set_here : (c : Configuration) (k : ℕ) → is_member t k ≡ false → p.symbol k ≡ false → with_node t p c (Sym k) ≡ set_symbol c k
  set_here c k own out = ap (λ b. cond b c (cond (p.symbol k) c (set_symbol c k))) own ∙ ap (λ b. cond b c (set_symbol c k)) out

  set_value : (c : Configuration) (k : ℕ) → among node_eq (references_of t (Sym k)) (Sym k) ≡ false → is_member t k ≡ false → (set_symbol c k).value k ≡ calculated_of t (set_symbol c k) None k
  set_value c k new own = ap (λ (b : Bool). cond b (calculated_of t c None k) (c.value k)) (number_self k)
      ∙ calculated_same t c (set_symbol c k) (alike_in t c (set_symbol c k) (record { outer = λ h. refl; undeclared = λ name. refl })) k (not_itself c k (calculated_of t c None k) own (symbol_references t k) new) None

  symbol_settled : (c : Configuration) (k : ℕ) → among node_eq (references_of t (Sym k)) (Sym k) ≡ false → IsFreeSymbol (with_node t p c (Sym k)) k
  symbol_settled c k new = record { value = λ own out. subst (λ (d : Configuration). d.value k ≡ calculated_of t d None k) (sym (set_here c k own out)) (set_value c k new own) }

  symbol_stays : (c d : Configuration) (k : ℕ) → KeepsSymbol c d k → ((m : Node) → among node_eq (references_of t (Sym k)) m ≡ true → Keeps c d m) → IsFreeSymbol c k → IsFreeSymbol d k
  symbol_stays c d k keeps all r = record { value = λ own out. sym (keeps.own own) ∙ (r.value own out ∙ calculated_same t c d (alike_in t c d keeps.alike) k (agree_nodes c d (symbol_references t k) all) None) }

  -- ---- a choice with its members

  module _ (c : Configuration) (i : ℕ) where
    alike_settled : Alike c (with_choice t p c i)
    alike_settled = record { outer = λ k. refl; undeclared = λ name. refl }

    -- none of the numbers is a member
    others : (ks : List ℕ) → among node_eq (map (node_of t) ks) (Choice i) ≡ false → Agree c (with_choice t p c i) ks
    others [] h = tt
    others (k ∷ ks) h = (other_and (picked_value (picked_of t c i) k) (c.value k) (is_among (choice_at t i).members k) (p.symbol k) (is_off (is_among (choice_at t i).members k) clash), others ks (or_right_false (node_eq (node_of t k) (Choice i)) (among node_eq (map (node_of t) ks) (Choice i)) h))
      where
        clash : is_among (choice_at t i).members k ≡ true → ⊥
        clash g = let there : node_of t k ≡ Choice i = ap (node_by k) (made.of_choice i k g) in
            let hit : node_eq (node_of t k) (Choice i) ≡ true = (node_eq-Decides (node_of t k) (Choice i)).1 there in
            let off = or_left_false (node_eq (node_of t k) (Choice i)) (among node_eq (map (node_of t) ks) (Choice i)) h in
            cc

    choice_settled : among node_eq (references_of t (Choice i)) (Choice i) ≡ false → IsFreeChoice (with_choice t p c i) i
    choice_settled new = record {
      mode = λ out. (λ z. cond (number_self i z && not (out z)) (free_mode t c i) (c.mode i)) ∙ free_mode_same t made c (with_choice t p c i) (alike_in t c (with_choice t p c i) alike_settled) i agree;
      members = λ j h out. (λ z. cond (h z && not (out z)) (picked_value (picked_of t c i) j) (c.value j)) ∙ ap (λ o. picked_value o j) (picked_same t made c (with_choice t p c i) (alike_in t c (with_choice t p c i) alike_settled) i agree);
    }
      where
        agree : Agree c (with_choice t p c i) (choice_references t i)
        agree = others (choice_references t i) new

  choice_stays : (c d : Configuration) (i : ℕ) → KeepsChoice c d i → ((m : Node) → among node_eq (references_of t (Choice i)) m ≡ true → Keeps c d m) → IsFreeChoice c i → IsFreeChoice d i
  choice_stays c d i keeps all r = let alike = alike_in t c d keeps.alike in let agree = agree_nodes c d (choice_references t i) all in record {
    mode = λ out. sym keeps.mode ∙ (r.mode out ∙ free_mode_same t made c d alike i agree);
    members = λ j h out. sym (keeps.members j h) ∙ (r.members j h out ∙ ap (λ o. picked_value o j) (picked_same t made c d alike i agree));
  }

  -- ---- all kinds

  kept_self : (c : Configuration) (n : Node) → Keeps c c n
  kept_self c (Sym k) = record { alike = alike_same c; own = λ e. refl }
  kept_self c (Choice i) = record { alike = alike_same c; mode = refl; members = λ j h. refl }
  kept_self c (Block f b) = alike_same c
  kept_self c (State f n u) = alike_same c

  kept_then : (b c d : Configuration) (n : Node) → Keeps b c n → Keeps c d n → Keeps b d n
  kept_then b c d (Sym k) h g = record { alike = alike_then b c d h.alike g.alike; own = λ e. h.own e ∙ g.own e }
  kept_then b c d (Choice i) h g = record { alike = alike_then b c d h.alike g.alike; mode = h.mode ∙ g.mode; members = λ j e. h.members j e ∙ g.members j e }
  kept_then b c d (Block f x) h g = alike_then b c d h g
  kept_then b c d (State f x u) h g = alike_then b c d h g

  stays : (c d : Configuration) (n : Node) → Keeps c d n → ((m : Node) → among node_eq (references_of t n) m ≡ true → Keeps c d m) → IsFree c n → IsFree d n
  stays c d (Sym k) keeps all r = symbol_stays c d k keeps all r
  stays c d (Choice i) keeps all r = choice_stays c d i keeps all r
  stays c d (Block f b) keeps all r = tt
  stays c d (State f x u) keeps all r = tt

  settled : (c : Configuration) (n : Node) → among node_eq (references_of t n) n ≡ false → IsFree (with_node t p c n) n
  settled c (Sym k) new = symbol_settled c k new
  settled c (Choice i) new = choice_settled c i new
  settled c (Block f b) new = tt
  settled c (State f x u) new = tt

  differ : (m n : Node) → node_eq m n ≡ false → m ≡ n → ⊥
  differ m n h e = let hit : node_eq m n ≡ true = (node_eq-Decides m n).1 e in cc

  one_apart : (c : Configuration) (k x : ℕ) (m : Node) → is_member t k ≡ false → node_eq (Sym k) m ≡ false → Keeps c (with_value c k x) m
  one_apart c k x (Sym m) f e = record { alike = record { outer = λ k. refl; undeclared = λ name. refl }; own = λ g. other x (c.value m) (k == m) (is_off (k == m) (λ h. differ (Sym k) (Sym m) e (ap Sym (number_is k m h)))) }
  one_apart c k x (Choice i) f e = record { alike = record { outer = λ k. refl; undeclared = λ name. refl }; mode = refl; members = λ j h. other x (c.value j) (k == j) (is_off (k == j) (λ g. let there : is_member t j ≡ true = ap is_some (made.of_choice i j h) in let here : is_member t k ≡ is_member t j = ap (is_member t) (number_is k j g) in cc)) }
  one_apart c k x (Block g b) f e = record { outer = λ k. refl; undeclared = λ name. refl }
  one_apart c k x (State g n u) f e = record { outer = λ k. refl; undeclared = λ name. refl }

  choice_apart : (c : Configuration) (i : ℕ) (m : Node) → node_eq (Choice i) m ≡ false → Keeps c (with_choice t p c i) m
  choice_apart c i (Sym m) e = record { alike = alike_settled c i; own = λ f. other_and (picked_value (picked_of t c i) m) (c.value m) (is_among (choice_at t i).members m) (p.symbol m) (is_off (is_among (choice_at t i).members m) (λ g. let there : is_member t m ≡ true = ap is_some (made.of_choice i m g) in cc)) }
  choice_apart c i (Choice k) e = record {
    alike = alike_settled c i;
    mode = other_and (free_mode t c i) (c.mode k) (i == k) (p.choice k) (is_off (i == k) (λ h. differ (Choice i) (Choice k) e (ap Choice (number_is i k h))));
    members = λ j h. other_and (picked_value (picked_of t c i) j) (c.value j) (is_among (choice_at t i).members j) (p.symbol j) (is_off (is_among (choice_at t i).members j) (λ g. let one = made.of_choice i j g in let two = made.of_choice k j h in let same : i ≡ k = cc in differ (Choice i) (Choice k) e (ap Choice same)));
  }
  choice_apart c i (Block f b) e = alike_settled c i
  choice_apart c i (State f n u) e = alike_settled c i

  apart : (c : Configuration) (n m : Node) → node_eq n m ≡ false → Keeps c (with_node t p c n) m
  apart c (Sym k) m e = by (is_member t k) refl (p.symbol k)
    where
      by : (b : Bool) → is_member t k ≡ b → (s : Bool) → Keeps c (cond b c (cond s c (with_value c k (calculated_of t c None k)))) m
      by true f s = kept_self c m
      by false f true = kept_self c m
      by false f false = one_apart c k (calculated_of t c None k) m f e
  apart c (Choice i) m e = choice_apart c i m e
  apart c (Block f b) m e = kept_self c m
  apart c (State f n u) m e = kept_self c m

  -- symbols and choices are set along an order
  pub nodes_settle : Settles node_eq (references_of t) IsFree Keeps (with_node t p)
  nodes_settle = record { eq_is = node_is; eq_self = node_self; settled = settled; apart = apart; stays = stays; same = kept_self; then = kept_then }
