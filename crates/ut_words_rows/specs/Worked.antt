-- Words of the worked lists: a list of words is written as one text that spaces cut.
use Rattle.std.specs.Prelude.{nat_eq, true, false, map, None, Result, List, []}
use Rattle.std.specs.List.{slice_split}
use Rattle.ut_text.specs.Bytes.{Bytes}
use Rattle.ut_words.specs.declared.order.Job.{Job}
use Rattle.ut_words.specs.declared.order.Order.{Order}
use Rattle.ut_words.specs.declared.order.Style.TheVariants as style
use Rattle.ut_words.specs.declared.order.UsageKind.{UsageKind}
use Rattle.ut_words.specs.Options.{OptionRow, options}
use Rattle.ut_words.specs.Jobs.{JobRow, jobs}
use Rattle.ut_words.specs.Words.{order_by, order_of}

-- a text cut at its spaces
abbrev pub cut : Bytes → List Bytes
cut text = slice_split (nat_eq 32) text

-- the tables as they are once every row is built
abbrev pub all_options : List OptionRow
all_options = map (λ (row : OptionRow). record row { built = true }) options

abbrev pub all_jobs : List JobRow
all_jobs = map (λ (row : JobRow). record row { built = true }) jobs

-- what words say once all rows are built
abbrev pub read : Bytes → Result Order UsageKind
read text = order_by all_options all_jobs (cut text)

-- what words say today
abbrev pub read_today : Bytes → Result Order UsageKind
read_today text = order_of (cut text)

-- an order with no option
abbrev pub bare : Job → List Bytes → Order
bare job files = record {
  job = job;
  model = None;
  workers = 1;
  kconfig = None;
  rsf = None;
  kbuild = None;
  vars = [];
  steps = 4000000;
  evidence = false;
  report = None;
  trace = None;
  white = None;
  black = None;
  style = style.Simple;
  size = None;
  files = files;
}
