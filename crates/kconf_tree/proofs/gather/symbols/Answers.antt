use Rattle.std.proofs.Common.{sym, ap, subst, ◌≡◌, ◌∙◌, List, [], ◌∷◌, ◌++◌, append_assoc, length, true}
use Rattle.std.proofs.lemmas.List.{append-nil, nil_from_length}
use Rattle.std.specs.List.{list_any}
use Rattle.ut_text.specs.Text.{text_eq}
use Rattle.kconf_entries.specs.declared.entries.ConfigEntry.{ConfigEntry}
use Rattle.kconf_tree.specs.Shape.{number_of}
use Rattle.kconf_tree.specs.Types.{typed, names_of}
use Rattle.kconf_tree.specs.Gathering.{symbols_after, with_entry_at}
use Rattle.kconf_tree.proofs.SymbolLaws.{symbols_push, symbols_none, length-after, named_among}
use Rattle.kconf_tree.proofs.gather.symbols.Goals as goal

pub loop-config-init : goal.loop-config-init
loop-config-init c = record { whole = c.into_iter-config-iterator.ensures.into_iter_gives.0; so_far = c.in_ok-symbols.ensures ∙ (ap (λ ts. (typed ts).symbols) c.requires ∙ symbols_none c.args.configs.items) }

pub add-requires : goal.add-requires
add-requires c = ap length c.loop-config.invariant.so_far ∙ (length-after c.args.configs.items c.loop-config.yielded ∙ sym (ap length c.requires))

pub loop-config-preserved : goal.loop-config-preserved
loop-config-preserved c = let all = c.args.configs.items in let e = c.in-Some.config in
    let left : c.loop-config.yielded ++ e ∷ c.next.new.self.rest.items ≡ all = ap (λ xs. c.loop-config.yielded ++ xs) (sym c.in-Some.ensures.steps.0) ∙ c.loop-config.invariant.whole in
    record {
      whole = append_assoc c.loop-config.yielded (e ∷ []) c.next.new.self.rest.items ∙ left;
      so_far = c.in_ok-add.ensures ∙ (ap (λ ss. with_entry_at ss (number_of (typed c.args.types.now) e.name) e) c.loop-config.invariant.so_far
          ∙ (ap (λ ts. with_entry_at (symbols_after all c.loop-config.yielded) (number_of (typed ts) e.name) e) c.requires
          ∙ symbols_push all c.loop-config.yielded e (subst (λ (xs : List ConfigEntry). list_any (text_eq e.name) (names_of xs) ≡ true) left (named_among c.loop-config.yielded e c.next.new.self.rest.items))));
    }

pub returns : goal.returns
returns c = let all = c.args.configs.items in c.loop-config.invariant.so_far ∙ ap (symbols_after all) (sym (append-nil c.loop-config.yielded) ∙ (ap (λ xs. c.loop-config.yielded ++ xs) (sym (nil_from_length c.loop-config.config-iterator.rest.items (sym c.loop-config.config-iterator.rest.ok.0 ∙ c.in-None.ensures.steps.0))) ∙ c.loop-config.invariant.whole))
