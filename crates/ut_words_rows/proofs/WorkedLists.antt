-- The worked lists, line by line.
use Rattle.std.proofs.Common.{◌≡◌, refl, true, false, [], ◌∷◌, ◌++◌}
use Rattle.std.specs.Prelude.{codes}
use Rattle.ut_text.specs.Bytes.{Bytes}
use Rattle.ut_text.specs.ByteClasses.{is_name_byte}
use Rattle.ut_words.specs.declared.wishes.ListKind.TheVariants.{Black, White}
use Rattle.ut_words.specs.declared.wishes.ListWish.TheVariants.{Off, On}
use Rattle.ut_words.specs.Lists.{IsList, IsSymbolLine, Kept, TakesLine, nothing_kept, with_line}
use Rattle.ut_words.specs.Values.{all_and_some}

symbol : (line name : Bytes) → all_and_some is_name_byte name ≡ true → line ≡ codes "CONFIG_" ++ name → IsSymbolLine line name
symbol line name named text = record { named = named; text = text }

abbrev b : Kept
b = with_line (codes "CONFIG_B") (On (codes "B")) nothing_kept

abbrev b_a : Kept
b_a = with_line (codes "CONFIG_A") (On (codes "A")) b

pub white_list : IsList White (codes "# on\nCONFIG_B\n\nCONFIG_A\nCONFIG_B\n") (On (codes "B") ∷ On (codes "A") ∷ [])
white_list =
    let again : TakesLine White false b_a (codes "CONFIG_B") b_a = (On (codes "B"), symbol (codes "CONFIG_B") (codes "B") refl refl, refl) in
    let a : TakesLine White false b (codes "CONFIG_A") b_a = (On (codes "A"), symbol (codes "CONFIG_A") (codes "A") refl refl, refl) in
    let first : TakesLine White false nothing_kept (codes "CONFIG_B") b = (On (codes "B"), symbol (codes "CONFIG_B") (codes "B") refl refl, refl) in
    (nothing_kept, refl, (b, first, (b, refl, (b_a, a, (b_a, again, refl)))))

pub black_list : IsList Black (codes "CONFIG_y") (Off (codes "y") ∷ [])
black_list =
    let only : Kept = with_line (codes "CONFIG_y") (Off (codes "y")) nothing_kept in
    (only, (Off (codes "y"), symbol (codes "CONFIG_y") (codes "y") refl refl, refl), refl)
