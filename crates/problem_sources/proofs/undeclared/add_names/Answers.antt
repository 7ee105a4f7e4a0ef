use Rattle.std.proofs.Common.{◌≡◌, Bool, List, ℕ, true, [], ◌∷◌, ◌++◌, ◌||◌, sym, ap, subst, ◌∙◌, append_assoc, cond, refl, false}
use Rattle.std.proofs.lemmas.List.{append-nil, nil_from_length}
use Rattle.std.specs.Ordering.{eq_by_cmp}
use Rattle.std.specs.BTreeSet.{contains}
use Rattle.std.proofs.lemmas.Cmp.{eq_by_cmp_equiv}
use Rattle.ut_text.specs.Text.{text_cmp, text_total}
use Rattle.problem_sources.specs.Undeclared.{is_named, AddsNames}
use Rattle.problem_sources.proofs.SetLaws.{any_push}
use Rattle.problem_sources.proofs.undeclared.add_names.Goals as goal

first_or : (a b c : Bool) → cond a true (b || c) ≡ (cond a true b || c)
first_or true b c = refl
first_or false b c = refl

pub loop-name-preserved : goal.loop-name-preserved
loop-name-preserved c = record {
  whole = append_assoc c.loop-name.yielded (c.in-Some.name ∷ []) c.next.new.self.rest.items ∙ (ap (λ xs. c.loop-name.yielded ++ xs) (sym c.in-Some.ensures.steps.0) ∙ c.loop-name.invariant.whole);
  added = λ name. c.in_ok-insert.ensures.updates.0 name
      ∙ (ap (λ b. cond b true (contains text_cmp c.loop-name.set name)) ((eq_by_cmp_equiv text_total).symm c.in-Some.name name)
      ∙ (ap (cond (eq_by_cmp text_cmp name c.in-Some.name) true) (c.loop-name.invariant.added name)
      ∙ (first_or (eq_by_cmp text_cmp name c.in-Some.name) (is_named c.loop-name.yielded name) (contains text_cmp c.args.set.now name)
      ∙ ap (λ b. b || contains text_cmp c.args.set.now name) (sym (any_push (eq_by_cmp text_cmp name) c.loop-name.yielded c.in-Some.name)))));
}

pub returns : goal.returns
returns c = let all : c.loop-name.yielded ≡ c.args.names.items = sym (append-nil c.loop-name.yielded)
    ∙ (ap (λ xs. c.loop-name.yielded ++ xs) (sym (nil_from_length c.loop-name.name-iterator.rest.items (sym c.loop-name.name-iterator.rest.ok.0 ∙ c.in-None.ensures.steps.0))) ∙ c.loop-name.invariant.whole) in
    subst (λ (xs : List (List ℕ)). AddsNames c.args.set.now c.loop-name.set xs) all c.loop-name.invariant.added
