use Rattle.std.proofs.Common.{◌≡◌, rules, sym, ap, ◌∙◌, false}
use Rattle.cpp_read.specs.Tokens.{spellings_of}
use Rattle.cpp_read.specs.TokenSteps.{begins_token}
use Rattle.cpp_read.specs.Words.{after_white}
use Rattle.cpp_read.proofs.TokensLemmas.{spellings-after_white, no_spellings}
use Rattle.cpp_read.proofs.tokens.next_token.Goals as goal

pub returns-then-not-begins_token-clause-value : goal.returns-then-not-begins_token-clause-value
returns-then-not-begins_token-clause-value c =
    let none : begins_token (after_white c.args.text.now) ≡ false = search rules in
    no_spellings c.args.text.now none

pub returns-clause-value : goal.returns-clause-value
returns-clause-value c = sym (spellings-after_white c.args.text.now) ∙ ap spellings_of (sym c.after_white-rest.ensures) ∙ c.split_token.ensures.tokens
