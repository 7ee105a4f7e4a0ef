use Rattle.std.proofs.Common.{◌≡◌, ◌<◌, sym, ap, ◌∙◌, subst, List, length, map, All, arith}
use Rattle.ut_text.specs.Text.{text_eq}
use Rattle.kconf_entries.specs.declared.entries.ChoiceEntry.{ChoiceEntry}
use Rattle.kconf_tree.specs.declared.shape.Symbol.{Symbol}
use Rattle.kconf_tree.specs.declared.shape.Choice.{Choice}
use Rattle.kconf_tree.specs.Apart.{AreApart}
use Rattle.kconf_tree.specs.Gathered.{symbols_of, choices_from}
use Rattle.kconf_tree.specs.Types.{typed, outers_with}
use Rattle.kconf_tree.specs.Choosing.{typed_by_all, bare_choices, with_members}
use Rattle.kconf_tree.specs.Modules.{modules_from}
use Rattle.kconf_tree.specs.Apart.{names_in}
use Rattle.kconf_tree.proofs.Groups.{names_apart}
use Rattle.kconf_tree.proofs.Bounds.{IsBelow, members_below, choices_below}
use Rattle.kconf_tree.proofs.TreeLaws.{modules_are, names_are, names_once, length-symbols, outers_are}
use Rattle.kconf_tree.proofs.ChoiceLaws.{length-kinds_of, length-choices, choices_are, kinds_of}
use Rattle.kconf_tree.proofs.parts.Parts.gathered.Goals as goal

pub choices_with-requires-clause-count : goal.choices_with-requires-clause-count
choices_with-requires-clause-count c = let es = c.args.entries.configs in let cs = c.args.entries.choices in
    let kinds : c.in_ok-kinds.kinds.items ≡ kinds_of es cs = c.in_ok-kinds.ensures ∙ (λ i. typed_by_all (c.requires.types i) (map (λ (e : ChoiceEntry). e.kind) (c.as_slice-4.ensures i)) (c.as_slice-3.ensures i)) in
    ap length c.deref.ensures.value ∙ (ap length kinds ∙ (length-kinds_of es cs ∙ sym (ap length c.into_vec-2.ensures)))

pub choices_with-requires-clause-there : goal.choices_with-requires-clause-there
choices_with-requires-clause-there c = let es = c.args.entries.configs in
    let symbols : c.deref-2.result.now ≡ symbols_of es = c.deref-2.ensures.value ∙ (c.in_ok-symbols.ensures ∙ ap symbols_of c.into_vec.ensures) in
    subst (λ (ss : List Symbol). All (λ (s : Symbol). IsBelow (length c.into_vec-2.result.items) s.member_of) ss) (sym symbols)
    (subst (λ n. All (λ (s : Symbol). IsBelow n s.member_of) (symbols_of es)) (sym (ap length c.into_vec-2.ensures)) (members_below (length c.args.entries.choices) es c.requires.choices.named))

pub invariant_of-result : goal.invariant_of-result
invariant_of-result c = let es = c.args.entries.configs in let cs = c.args.entries.choices in
    let symbols : c.in_ok-symbols.symbols.items ≡ symbols_of es = c.in_ok-symbols.ensures ∙ ap symbols_of c.into_vec.ensures in
    let kinds : c.in_ok-kinds.kinds.items ≡ kinds_of es cs = c.in_ok-kinds.ensures ∙ (λ i. typed_by_all (c.requires.types i) (map (λ (e : ChoiceEntry). e.kind) (c.as_slice-4.ensures i)) (c.as_slice-3.ensures i)) in
    let d = c.deref.ensures.value ∙ kinds in let s = c.deref-2.ensures.value ∙ symbols in let v = c.into_vec-2.ensures in
    let choices : c.in_ok-choices.choices.items ≡ choices_from es 0 cs = c.in_ok-choices.ensures ∙ ((λ i. with_members (bare_choices (d i) (v i)) 0 (s i)) ∙ choices_are es cs) in
    record {
      named = ap (λ ts. names_in (typed ts).symbols) c.requires.types ∙ (names_are es ∙ sym (ap names_in symbols));
      apart = subst (AreApart text_eq) (sym (ap names_in symbols ∙ names_once es)) (names_apart es);
      symbols = omega (arith, ap length symbols, length-symbols es, ap length c.requires.types, c.requires.few);
      choices = omega (arith, ap length choices, length-choices es 0 cs, c.requires.choices.numbered);
      modules = subst (λ n. IsBelow n c.modules_among-modules.result) (ap length c.deref-3.ensures.value) c.modules_among-modules.ensures.within;
      member_of = subst (λ (ss : List Symbol). All (λ (x : Symbol). IsBelow (length c.in_ok-choices.choices.items) x.member_of) ss) (sym symbols)
          (subst (λ n. All (λ (x : Symbol). IsBelow n x.member_of) (symbols_of es)) (sym (ap length choices ∙ length-choices es 0 cs)) (members_below (length cs) es c.requires.choices.named));
      members = subst (λ (xs : List Choice). All (λ (x : Choice). All (λ k. k < length c.in_ok-symbols.symbols.items) x.members) xs) (sym choices)
          (subst (λ (ss : List Symbol). All (λ (x : Choice). All (λ k. k < length ss) x.members) (choices_from es 0 cs)) (sym symbols) (choices_below es cs));
    }

pub returns : goal.returns
returns c = let es = c.args.entries.configs in let cs = c.args.entries.choices in
    let symbols : c.in_ok-symbols.symbols.items ≡ symbols_of es = c.in_ok-symbols.ensures ∙ ap symbols_of c.into_vec.ensures in
    let kinds : c.in_ok-kinds.kinds.items ≡ kinds_of es cs = c.in_ok-kinds.ensures ∙ (λ i. typed_by_all (c.requires.types i) (map (λ (e : ChoiceEntry). e.kind) (c.as_slice-4.ensures i)) (c.as_slice-3.ensures i)) in
    let d = c.deref.ensures.value ∙ kinds in let s = c.deref-2.ensures.value ∙ symbols in let v = c.into_vec-2.ensures in
    let choices : c.in_ok-choices.choices.items ≡ choices_from es 0 cs = c.in_ok-choices.ensures ∙ ((λ i. with_members (bare_choices (d i) (v i)) 0 (s i)) ∙ choices_are es cs) in
    let outers = c.in_ok-outers.ensures ∙ ((λ i. outers_with (typed (c.requires.types i)) (c.as_slice.ensures i) (c.as_slice-2.ensures i)) ∙ outers_are c.args.entries) in
    let m3 = c.deref-3.ensures.value ∙ symbols in
    let m = c.modules_among-modules.ensures.value ∙ ((λ i. modules_from 0 (c.requires.types i) (m3 i)) ∙ modules_are es) in
    λ i. record { symbols = symbols i; choices = choices i; outers = outers i; modules = m i }
