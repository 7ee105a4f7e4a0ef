-- The listings of a text, line by line.
use Rattle.std.proofs.Common.{◌≡◌, ◌∙◌, ℕ, Bool, true, false, refl, sym, ap, List, [], ◌∷◌, ◌++◌, Result, Ok, Err, append_assoc, true≢false}
use Rattle.kbuild_text.specs.Chains as parts
use Rattle.kbuild_text.specs.Listings.{at_line, in_front, in_part, listings_under}
use Rattle.kbuild_text.specs.Statements as says
use Rattle.kbuild_text.specs.Variables.{meaning_of}
use Rattle.kbuild_text.specs.declared.chains.Chain.{Chain}
use Rattle.kbuild_text.specs.declared.listings.Listing.{Listing}
use Rattle.kbuild_text.specs.declared.marks.Mark.{Mark}
use Rattle.kbuild_text.proofs.ChainLaws.{closed-push, in_part-push, turned-push}

-- listings in front of those in front
pub in_front-twice : (xs ys : List Listing) (r : Result (List Listing) ℕ) → in_front xs (in_front ys r) ≡ in_front (xs ++ ys) r
in_front-twice xs ys (Ok zs) = ap Ok (sym (append_assoc xs ys zs))
in_front-twice xs ys (Err e) = refl

pub in_front-none : (r : Result (List Listing) ℕ) → in_front [] r ≡ r
in_front-none (Ok zs) = refl
in_front-none (Err e) = refl

-- ---- one line, and whatever follows it

module _ (listings : List Listing) (old new : List Chain) (number : ℕ) (line : List Mark) where
  -- an assignment
  pub assigned : (variable : List Mark) (ws : List (List Mark)) (all : List Listing) → says.Assigns variable ws ≡ says.statement_of line → new ≡ old
      → all ≡ listings ++ listings_under old (meaning_of variable) ws → (after : List Chain → Result (List Listing) ℕ)
      → in_front listings (at_line old number line (says.statement_of line) after) ≡ in_front all (after new)
  assigned variable ws all is same more after =
      sym (ap (λ s. in_front listings (at_line old number line s after)) is)
      ∙ (in_front-twice listings (listings_under old (meaning_of variable) ws) (after old)
      ∙ (ap (λ l. in_front l (after old)) (sym more) ∙ ap (λ cs. in_front all (after cs)) (sym same)))

  -- an `else` in a part
  pub turned : (ws : List (List Mark)) (is_open : Bool) → says.Turns ws ≡ says.statement_of line → parts.Turns old ws is_open new → is_open ≡ true
      → (after : List Chain → Result (List Listing) ℕ) → in_front listings (at_line old number line (says.statement_of line) after) ≡ in_front listings (after new)
  turned ws false is turns e after = absurd (true≢false (sym e))
  turned ws true is turns e after =
      sym (ap (λ s. in_front listings (at_line old number line s after)) is)
      ∙ ap (in_front listings)
      (ap (λ cs. in_part cs number (after (parts.turned ws cs))) turns.2
      ∙ (in_part-push turns.1 turns.0 number (after (parts.turned ws (turns.1 ++ turns.0 ∷ []))) ∙ ap after (turned-push ws turns.1 turns.0 ∙ sym turns.3)))

  -- an `endif` of a part
  pub closed : (is_open : Bool) → says.Closes ≡ says.statement_of line → parts.Closes old is_open new → is_open ≡ true
      → (after : List Chain → Result (List Listing) ℕ) → in_front listings (at_line old number line (says.statement_of line) after) ≡ in_front listings (after new)
  closed false is closes e after = absurd (true≢false (sym e))
  closed true is closes e after =
      sym (ap (λ s. in_front listings (at_line old number line s after)) is)
      ∙ ap (in_front listings)
      (ap (λ cs. in_part cs number (after (parts.closed cs))) closes.1
      ∙ (in_part-push new closes.0 number (after (parts.closed (new ++ closes.0 ∷ []))) ∙ ap after (closed-push new closes.0)))
