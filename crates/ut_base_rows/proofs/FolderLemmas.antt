-- The texts of folders.
use Rattle.std.proofs.Common.{[], ◌∷◌}
use Rattle.ut_text.specs.Bytes.{Bytes}
use Rattle.ut_base.specs.Reading.{IsOwnOrOk}
use Rattle.ut_base_rows.specs.Errors.{folder_errors}
use Rattle.ut_base_rows.specs.Folders.{filled}

-- an empty text is a refusal of its own
pub filled_own : (name text : Bytes) → IsOwnOrOk folder_errors (filled name text)
filled_own name [] = tt
filled_own name (b ∷ bytes) = tt
