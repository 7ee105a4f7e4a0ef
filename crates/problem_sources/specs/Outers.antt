-- Outer conditions that come after those of a tree. No public contract cites this module.
use Rattle.std.specs.Prelude.{List, if◌then◌else◌}
use Rattle.std.specs.List.{list_any}
use Rattle.ut_text.specs.Bytes.{Bytes}
use Rattle.ut_text.specs.Text.{text_eq}
use Rattle.cpp_blocks.specs.Mentions.{with_new}

-- the conditions after the first ones, with one more where neither has it
abbrev pub with_outer : List Bytes → List Bytes → Bytes → List Bytes
with_outer first more text = if list_any (text_eq text) first then more else with_new text_eq more text
