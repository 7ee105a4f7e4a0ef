use Rattle.std.proofs.Common.{◌≡◌, ◌↔◌, ℕ, List, Contains, refl, sym, subst, false}
use Rattle.std.specs.List.{flat_map}
use Rattle.std.specs.BTreeSet.{contains}
use Rattle.ut_text.specs.Text.{text_cmp}
use Rattle.kconf_tree.specs.Undeclared.{undeclared_of, undeclared_of_symbol, undeclared_of_choice}
use Rattle.kconf_tree.specs.Naming.{is_named, AddsNames}
use Rattle.kconf_tree.proofs.Rising.{same_members}
use Rattle.kconf_tree.proofs.SetLaws.{adds_then, adds_all}
use Rattle.kconf_tree.proofs.tree.Tree.undeclared.Goals as goal

pub returns : goal.returns
returns c = let t = c.args.self.now.shape in
    let both : AddsNames c.new-set.result c.add_choices.new.set (undeclared_of t) = adds_then c.new-set.result c.add_symbols.new.set c.add_choices.new.set (flat_map (undeclared_of_symbol t) t.symbols) (flat_map (undeclared_of_choice t) t.choices) c.in_ok-add_symbols.ensures c.in_ok-add_choices.ensures in
    let none : (name : List ℕ) → contains text_cmp c.new-set.result name ≡ false = λ name. rw c.new-set.ensures.empty refl in
    record {
      rising = c.in_ok-names.ensures.rising;
      exact = λ name. subst (λ (xs : List (List ℕ)). Contains xs name ↔ Contains (undeclared_of t) name) (sym c.in_ok-names.ensures.names)
          (same_members c.add_choices.new.set (undeclared_of t) (adds_all c.new-set.result c.add_choices.new.set (undeclared_of t) none both) name);
    }
