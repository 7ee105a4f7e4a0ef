-- What a parse by a command of this shape says.
use Rattle.std.proofs.Common.{◌≡◌, ◌∙◌, ap, sym, subst, refl, true, List, [], Result, Ok, Err, IfOk, MatchResult}
use Rattle.clap.specs.Words.{App, Text, fault_of, found_of, is_simple, is_simple_and_free, matches_of, rows_of, FailsBy, HasKind, HasMatchesOf}
use Rattle.clap.specs.declared.parser.matches.ArgMatches.{ArgMatches}
use Rattle.clap.specs.declared.error.Error.{Error}
use Rattle.ut_words.specs.Command.{the_app}

simple : is_simple the_app ≡ true
simple = refl

simple_and_free : is_simple_and_free the_app ≡ true
simple_and_free = refl

pub parsed : (app : App) (words : List Text) (r : Result ArgMatches Error) → app ≡ the_app
    → (is_simple_and_free app ≡ true → FailsBy (fault_of app words) r) → IfOk r (HasMatchesOf app words)
    → MatchResult r (λ m. (fault_of the_app words ≡ []) × (rows_of (found_of m) ≡ matches_of the_app words)) (HasKind (fault_of the_app words))
parsed app words (Ok m) e kinds matches = (
  ap (λ a. fault_of a words) (sym e) ∙ kinds (ap is_simple_and_free e ∙ simple_and_free),
  (matches (ap is_simple e ∙ simple)).0 ∙ ap (λ a. matches_of a words) e,
)
parsed app words (Err x) e kinds matches =
    subst (λ ks. HasKind ks x) (ap (λ a. fault_of a words) e) (kinds (ap is_simple_and_free e ∙ simple_and_free))
