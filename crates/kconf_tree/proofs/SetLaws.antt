-- Names are added to a set one list after another.
use Rattle.std.proofs.Common.{◌≡◌, Bool, true, false, ◌||◌, cond, List, [], ◌∷◌, ◌++◌, refl, ap, sym, ◌∙◌}
use Rattle.std.proofs.lemmas.List.Folds.{list_any-append}
use Rattle.std.specs.Ordering.{eq_by_cmp}
use Rattle.std.specs.BTreeSet.{BTreeSet, contains}
use Rattle.ut_text.specs.Bytes.{Bytes}
use Rattle.ut_text.specs.Text.{text_cmp}
use Rattle.kconf_tree.specs.Naming.{is_named, AddsNames}

pub adds_nothing : (s : BTreeSet Bytes) → AddsNames s s []
adds_nothing s name = refl

swapped : (a b c : Bool) → (b || (a || c)) ≡ ((a || b) || c)
swapped true true c = refl
swapped true false c = refl
swapped false true c = refl
swapped false false c = refl

pub adds_then : (a b c : BTreeSet Bytes) (xs ys : List Bytes) → AddsNames a b xs → AddsNames b c ys → AddsNames a c (xs ++ ys)
adds_then a b c xs ys one more name = more name ∙ (ap (λ (x : Bool). is_named ys name || x) (one name)
    ∙ (swapped (is_named xs name) (is_named ys name) (contains text_cmp a name) ∙ ap (λ (x : Bool). x || contains text_cmp a name) (sym (list_any-append (eq_by_cmp text_cmp name) xs ys))))

-- a set that had no name has those of the list
pub adds_all : (old new : BTreeSet Bytes) (names : List Bytes) → ((name : Bytes) → contains text_cmp old name ≡ false) → AddsNames old new names → (name : Bytes) → contains text_cmp new name ≡ is_named names name
adds_all old new names none adds name = adds name ∙ (ap (λ (x : Bool). is_named names name || x) (none name) ∙ alone (is_named names name))
  where
    alone : (b : Bool) → (b || false) ≡ b
    alone true = refl
    alone false = refl
