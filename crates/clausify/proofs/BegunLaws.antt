-- The form before the wish and the form of a wish, as the code has them.
use Rattle.std.proofs.Common.{◌≡◌, ℕ, ◌≤◌, Bool, true, false, ◌||◌, List, [], ◌∷◌, ◌++◌, length, map, refl, sym, ap, subst, ◌∙◌, ◌⊎◌, inl, inr, ⊎_elim}
use Rattle.std.specs.Prelude.{IsSorted}
use Rattle.std.proofs.lemmas.Bool.{false≢true}
use Rattle.std.proofs.lemmas.List.{append-nil}
use Rattle.std.proofs.lemmas.List.Folds.{list_any-append}
use Rattle.ut_logic.specs.declared.item.Item.{Item}
use Rattle.ut_logic.specs.declared.literals.Lit.{Lit}
use Rattle.ut_logic.specs.declared.formula.Formula.{Formula}
use Rattle.ut_logic.specs.declared.facts.Fact.{Fact}
use Rattle.ut_logic.specs.Assign.{is_in}
use Rattle.ut_logic.specs.Item.{item_eq, item_cmp}
use Rattle.ut_logic.specs.Variables.{AreDistinct}
use Rattle.ut_logic.specs.Clauses.{AreWithin}
use Rattle.ut_logic.specs.Truth.{mentioned, together}
use Rattle.clausify.specs.Form.{Form}
use Rattle.clausify.specs.ClauseForm.{HaveVariables, var_of, hold_each}
use Rattle.clausify.specs.Draft.{IsDraft, IsSettled}
use Rattle.clausify.specs.Order.{items_of, outers_of, mentioned_in, form_before, form_with, AreListed, AreOver, IsWishOver}
use Rattle.clausify.specs.Tidy.{AreTidy}
use Rattle.clausify.specs.Meaning.{StandsFor}
use Rattle.clausify.specs.Begun.{Begun, IsBegun, IsDrafted, IsFormOf}
use Rattle.clausify.proofs.FormLaws.{AreAmong, has_variable, named, in_range, stands_for, facts_among, held_among, wish_among}
use Rattle.clausify.proofs.OverLaws.{stands_over, in_front, in_back}
use Rattle.clausify.proofs.Shifts.{draft_tidy}

-- what is among the items has variables
pub have_variables : (items : List Item) (fs : List Formula) → AreOver items fs → HaveVariables (var_of items) (together (map mentioned fs))
have_variables items fs over i h = has_variable items i (over i h)

-- the variables of a settled draft are those of the form
draft_vars : (s w : Form) (cs : List (List Lit)) → IsDraft s w cs → w.vars ≡ s.vars
draft_vars s w cs d = sym (ap (λ (t : Form). t.vars) d.is)

split : (xs ys : List Item) (i : Item) → is_in (xs ++ ys) i ≡ true → (is_in xs i ≡ true) ⊎ (is_in ys i ≡ true)
split xs ys i h = by (is_in xs i) (is_in ys i) (sym (list_any-append (λ x. item_eq x i) xs ys) ∙ h)
  where
    by : (a b : Bool) → (a || b) ≡ true → (a ≡ true) ⊎ (b ≡ true)
    by true b g = inl refl
    by false b g = inr g

-- what both lists mention
pub both_over : (items : List Item) (held wish : List Formula) → AreOver items held → AreOver items wish → AreOver items (held ++ wish)
both_over items [] wish h w i g = w i g
both_over items (f ∷ held) wish h w i g = ⊎_elim (λ here. h i (in_front (mentioned f) (together (map mentioned held)) i here))
    (λ there. both_over items held wish (λ j k. h j (in_back (mentioned f) (together (map mentioned held)) j k)) w i there)
    (split (mentioned f) (together (map mentioned (held ++ wish))) i g)

module _ (held : List Formula) (facts : List Fact) (wish : List Formula) (items : List Item) (written : Form) (cs : List (List Lit)) (drafted : IsDrafted held facts items written cs) (over : AreOver items wish) where
  abbrev among : AreAmong items held facts wish
  among = record { of_held = drafted.of_held; of_facts = drafted.of_facts; of_wish = over }

  -- with the wish, over variables that are those of the items, where nothing is as it was written
  module _ (vars : List Item) (same : vars ≡ items) (done : Form) (ds : List (List Lit)) (adds : (s : Form) → IsDraft s written cs → IsDraft (hold_each (var_of vars) wish s) done ds) (settled : IsSettled vars done) where
    here : IsSettled items done
    here = subst (λ (xs : List Item). IsSettled xs done) same settled

    whole : IsDraft (form_with items held facts wish) done ds
    whole = subst (λ (xs : List Item). IsDraft (hold_each (var_of xs) wish (form_before items held facts)) done ds) same (adds (form_before items held facts) drafted.draft)

    tidy : AreTidy (form_with items held facts wish).clauses ds
    tidy = draft_tidy (form_with items held facts wish) done ds whole here.none

    same_vars : done.vars ≡ (form_with items held facts wish).vars
    same_vars = draft_vars (form_with items held facts wish) done ds whole

    pub done_wide : length items ≤ done.vars
    done_wide = here.wide

    pub done_within : AreWithin done.vars ds
    done_within = subst (λ (n : ℕ). AreWithin n ds) (sym same_vars) (in_range items held facts wish among ds tidy)

    pub done_form : AreDistinct items → IsFormOf held facts wish items done.vars ds
    done_form distinct = record {
      count = same_vars;
      written = tidy;
      means = means;
      over = stands_over items facts (held ++ wish) done.vars ds means done_within distinct drafted.of_facts (both_over items held wish drafted.of_held over);
    }
      where
        means : StandsFor items facts (held ++ wish) done.vars ds
        means = subst (λ (n : ℕ). StandsFor items facts (held ++ wish) n ds) (sym same_vars) (stands_for items held facts wish among ds tidy)

-- ---- as calls make them

none_more : (facts : List Fact) (i : Item) → is_in (items_of facts ++ outers_of []) i ≡ is_in (items_of facts) i
none_more facts i = ap (λ (xs : List Item). is_in xs i) (append-nil (items_of facts))

module _ (held : List Formula) (facts gs hs : List Fact) (wish : List Formula) (items vars : List Item) (same_g : gs ≡ facts) (same_h : hs ≡ facts) (same : vars ≡ items)
    (listing : (i : Item) → is_in items i ≡ is_in (items_of gs ++ outers_of wish) i) (listed : AreListed facts) (over : AreOver (items_of facts) held) where
  members : (i : Item) → is_in items i ≡ is_in (items_of facts ++ outers_of wish) i
  members i = listing i ∙ ap (λ (ks : List Fact). is_in (items_of ks ++ outers_of wish) i) same_g

  pub made_members : (i : Item) → is_in items i ≡ is_in (items_of facts ++ outers_of wish) i
  made_members = members

  pub made_held : HaveVariables (var_of vars) (together (map mentioned held))
  made_held = subst (λ (xs : List Item). HaveVariables (var_of xs) (together (map mentioned held))) (sym same) (have_variables items held (held_among items facts held wish members over))

  pub made_facts : HaveVariables (var_of vars) (mentioned_in hs)
  made_facts = subst (λ (xs : List Item). HaveVariables (var_of xs) (mentioned_in hs)) (sym same)
      (subst (λ (ks : List Fact). HaveVariables (var_of items) (mentioned_in ks)) (sym same_h) (λ i h. has_variable items i (facts_among items facts wish members listed i h)))

  pub made_wish : IsWishOver facts wish → AreOver items wish
  made_wish wished = wish_among items facts wish members wished

  module _ (written : Form) (cs : List (List Lit)) (d : IsDraft (form_before vars held hs) written cs) (settled : IsSettled vars written) where
    draft_there : IsDraft (form_before items held facts) written cs
    draft_there = subst (λ (xs : List Item). IsDraft (form_before xs held facts) written cs) same (subst (λ (ks : List Fact). IsDraft (form_before vars held ks) written cs) same_h d)

    pub made_draft : IsDrafted held facts items written cs
    made_draft = record {
      of_held = held_among items facts held wish members over;
      of_facts = facts_among items facts wish members listed;
      draft = draft_there;
      settled = subst (λ (xs : List Item). IsSettled xs written) same settled;
    }

    -- what is begun, where there is no wish
    pub made_begun : wish ≡ [] → IsSorted item_cmp items → IsBegun held facts (record { items = items; vars = written.vars; clauses = cs })
    made_begun none sorted = record {
      sorted = sorted;
      members = λ i. members i ∙ (ap (λ (fs : List Formula). is_in (items_of facts ++ outers_of fs) i) none ∙ none_more facts i);
      vars = draft_vars (form_before items held facts) written cs draft_there;
      clauses = draft_tidy (form_before items held facts) written cs draft_there settled.none;
      listed = listed;
      held_listed = over;
    }

-- the draft again, of what is begun
pub drafted_again : (held : List Formula) (facts : List Fact) (b : Begun) → IsBegun held facts b → IsDrafted held facts b.items (record { vars = b.vars; clauses = [] }) b.clauses
drafted_again held facts b begun = record {
  of_held = held_among b.items facts held [] members begun.held_listed;
  of_facts = facts_among b.items facts [] members begun.listed;
  draft = record {
    front = form.clauses;
    is = λ i. record { vars = sym begun.vars i; clauses = sym (append-nil form.clauses) i };
    tidy = begun.clauses;
  };
  settled = record { wide = wide; none = refl };
}
  where
    form : Form
    form = form_before b.items held facts

    members : (i : Item) → is_in b.items i ≡ is_in (items_of facts ++ outers_of []) i
    members i = begun.members i ∙ sym (none_more facts i)

    wide : length b.items ≤ b.vars
    wide = subst (λ (n : ℕ). length b.items ≤ n) (sym begun.vars)
        (named b.items held facts [] (record { of_held = held_among b.items facts held [] members begun.held_listed; of_facts = facts_among b.items facts [] members begun.listed; of_wish = λ i h. absurd (false≢true h) }))

pub drafted_as : (held : List Formula) (facts : List Fact) (items : List Item) (v w : Form) (cs ds : List (List Lit)) → w ≡ v → ds ≡ cs → IsDrafted held facts items v cs → IsDrafted held facts items w ds
drafted_as held facts items v w cs ds same_w same_c d = subst (λ (x : Form). IsDrafted held facts items x ds) (sym same_w) (subst (λ (ks : List (List Lit)). IsDrafted held facts items v ks) (sym same_c) d)
