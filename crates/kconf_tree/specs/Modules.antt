-- Where the modules symbol stands among symbols beside what is declared of them. No public contract cites
-- this module.
use Rattle.std.specs.Prelude.{ℕ, ◌&&◌, List, [], ◌∷◌, Option, None, Some, if◌then◌else◌, ◌+◌}
use Rattle.ut_text.specs.Bytes.{Bytes}
use Rattle.kconf_tree.specs.declared.shape.Symbol.{Symbol}
use Rattle.kconf_tree.specs.declared.types.Declared.{Declared}
use Rattle.kconf_tree.specs.Gathered.{is_bool_or_tristate}

-- the first that is bool or tristate and has `modules`, from this number on
abbrev pub modules_from : ℕ → List (Bytes × Declared) → List Symbol → Option ℕ
modules_from n [] ss = None
modules_from n (d ∷ ds) [] = None
modules_from n (d ∷ ds) (s ∷ ss) = if is_bool_or_tristate s && d.1.modules then Some n else modules_from (n + 1) ds ss
