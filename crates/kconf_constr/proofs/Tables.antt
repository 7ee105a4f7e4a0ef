-- Tests on truths, by trying both.
use Rattle.std.proofs.Common.{◌≡◌, Bool, true, false, not, ◌&&◌, refl, sym}
use Rattle.kconf_tree.proofs.Small.{and_left, and_right}

abbrev pub on_both : (Bool → Bool) → Bool
on_both p = p false && p true

pub at_both : (p : Bool → Bool) → on_both p ≡ true → (b : Bool) → p b ≡ true
at_both p h false = and_left (p false) (p true) h
at_both p h true = and_right (p false) (p true) h

abbrev pub same_bool : Bool → Bool → Bool
same_bool true b = b
same_bool false b = not b

pub same_bool_is : (a b : Bool) → same_bool a b ≡ true → a ≡ b
same_bool_is true b h = sym h
same_bool_is false true h = absurd (cc)
same_bool_is false false h = refl

abbrev pub implies : Bool → Bool → Bool
implies true b = b
implies false b = true

pub implies_is : (a b : Bool) → implies a b ≡ true → a ≡ true → b ≡ true
implies_is true b h g = h
implies_is false b h g = absurd (cc)
