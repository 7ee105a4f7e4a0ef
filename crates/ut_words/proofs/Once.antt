-- An option is said twice exactly where its name stands twice among those that are said.
use Rattle.std.proofs.Common.{◌≡◌, ◌∙◌, ap, ap₂, refl, List, [], ◌∷◌, ◌++◌, Some, None, Option, Bool, true, false, if◌then◌else◌, ◌&&◌, ◌||◌, not, is_some, map}
use Rattle.std.specs.List.{list_all}
use Rattle.std.specs.Str.{bytes_eq}
use Rattle.clap.specs.Words.{Text}
use Rattle.ut_words.specs.Values.{are_distinct, is_one_of}
use Rattle.ut_words.proofs.RowLaws.{either}
use Rattle.ut_words.proofs.Shown.{Options, value_in, value_in-more}
use Rattle.ut_words.proofs.Walking.{fresh}

abbrev names : Options → List Text
names options = map (λ given. given.0) options

-- none of the options was said before
clear : Options → Options → Bool
clear done options = list_all (λ given. not (is_some (value_in given.0 done))) options

found_or : (o : Option Text) (b : Bool) (value : Text) → not (is_some (either o (if b then Some value else None))) ≡ (not (is_some o) && not b)
unfolding either
found_or (Some x) b value = refl
found_or None true value = refl
found_or None false value = refl

regroup : (a b c d : Bool) → ((a && b) && (c && d)) ≡ ((a && c) && (b && d))
regroup true true c d = refl
regroup true false true d = refl
regroup true false false d = refl
regroup false b c d = refl

not_either : (a b : Bool) → (not a && not b) ≡ not (a || b)
not_either true b = refl
not_either false b = refl

clear-more : (done : Options) (name value : Text) (options : Options) → clear (done ++ (name, value) ∷ []) options ≡ (clear done options && not (is_one_of (names options) name))
unfolding clear
clear-more done name value [] = refl
clear-more done name value (given ∷ options) =
    ap₂ (λ a b. a && b) (ap (λ o. not (is_some o)) (value_in-more given.0 name value done) ∙ found_or (value_in given.0 done) (bytes_eq name given.0) value)
    (clear-more done name value options)
    ∙ regroup (not (is_some (value_in given.0 done))) (not (bytes_eq name given.0)) (clear done options) (not (is_one_of (names options) name))
    ∙ ap (λ b. clear done (given ∷ options) && b) (not_either (bytes_eq name given.0) (is_one_of (names options) name))

gathered : (a c n d : Bool) → (a && ((c && n) && d)) ≡ ((a && c) && (n && d))
gathered true true n d = refl
gathered true false n d = refl
gathered false c n d = refl

fresh-clear : (done options : Options) → fresh done options ≡ (clear done options && are_distinct (names options))
unfolding clear fresh
fresh-clear done [] = refl
fresh-clear done (given ∷ options) =
    ap (λ b. not (is_some (value_in given.0 done)) && b)
    (fresh-clear (done ++ given ∷ []) options ∙ ap (λ b. b && are_distinct (names options)) (clear-more done given.0 given.1 options))
    ∙ gathered (not (is_some (value_in given.0 done))) (clear done options) (not (is_one_of (names options) given.0)) (are_distinct (names options))

clear-nothing : (options : Options) → clear [] options ≡ true
unfolding clear
clear-nothing [] = refl
clear-nothing (given ∷ options) = clear-nothing options

pub fresh-once : (options : Options) → fresh [] options ≡ are_distinct (names options)
fresh-once options = fresh-clear [] options ∙ ap (λ b. b && are_distinct (names options)) (clear-nothing options)
