-- How a comparison is written, as the text of an outer condition has it. That quoted words stand between quotes and
-- one space stands between the words is this project's rule.
use Rattle.std.specs.Prelude.{◌++◌, codes}
use Rattle.ut_text.specs.Bytes.{Bytes}
use Rattle.ut_logic.specs.declared.trit.Trit.{Trit}
use Rattle.ut_logic.specs.declared.trit.Trit.TheVariants.{N, M, Y}
use Rattle.kconf_entries.specs.declared.expr.Side.{Side}
use Rattle.kconf_entries.specs.declared.expr.Side.TheVariants as side
use Rattle.kconf_entries.specs.declared.expr.Sign.{Sign}
use Rattle.kconf_entries.specs.declared.expr.Sign.TheVariants as sign

-- a constant as it is written
abbrev pub trit_text : Trit → Bytes
trit_text N = codes "n"
trit_text M = codes "m"
trit_text Y = codes "y"

-- a side as it is written
abbrev pub side_text : Side → Bytes
side_text (side.Const x) = trit_text x
side_text (side.Name name) = name
side_text (side.Literal text) = text
side_text (side.Quoted text) = codes "\"" ++ text ++ codes "\""

-- the sign as it is written
abbrev pub sign_text : Sign → Bytes
sign_text sign.Same = codes "="
sign_text sign.Differ = codes "!="
sign_text sign.Less = codes "<"
sign_text sign.More = codes ">"
sign_text sign.LessSame = codes "<="
sign_text sign.MoreSame = codes ">="

-- both sides and the sign, with one space between
abbrev pub comparison_text : Side → Sign → Side → Bytes
comparison_text left s right = side_text left ++ codes " " ++ sign_text s ++ codes " " ++ side_text right
