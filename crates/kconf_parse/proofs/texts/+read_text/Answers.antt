use Rattle.std.proofs.Common.{◌∙◌, ◌<◌, Bool, ap, refl, arith}
use Rattle.ut_text.specs.Bytes.{Bytes}
use Rattle.ut_text.specs.Lines.{lines_of}
use Rattle.ut_base.specs.Reading.{stand}
use Rattle.ut_base.proofs.ReadingLaws.{exit_is}
use Rattle.kconf_lines.specs.Lines.{numbered}
use Rattle.kconf_lines.specs.Reading.{line_shown}
use Rattle.kconf_cut.specs.Words.{words_of}
use Rattle.kconf_texts.specs.Texts.{is_help}
use Rattle.kconf_parse.specs.Reading.{after_help_if}
use Rattle.kconf_parse.proofs.TextLaws.{one_line, line_cut, fewer, not_taken, taken, no_memory, ends, line_refused, line_passed, too_deep, text_refused, text_came, text_passed}
use Rattle.kconf_parse.proofs.texts.+read_text.Goals as goal
use Rattle.kconf_parse.proofs.texts.+read_text.Goals.{in-Some-text+else-room-eq0+in_ok-read_text-in-Some-text+in_ok-sourced-in-Some-text, in-None}

pub returns-in_err-content : goal.returns-in_err-content
returns-in_err-content g t c = λ before s.
    not_taken c.args.setting.values.now c.args.setting.root.now c.args.room c.args.file.now before (stand g.F.Files c.args.files.now) c.args.meter.now _ c.from_residual.result
    (exit_is c.from_residual.ensures.1) c.in_err-content.ensures

pub lines-init : goal.lines-init
lines-init g t c = λ before s.
    taken c.args.setting.values.now c.args.setting.root.now c.args.room c.args.file.now before (stand g.F.Files c.args.files.now) c.args.meter.now c.args.progress.now c.in_ok-content.content
    c.new-cursor.result s (c.new-cursor.ensures ∙ ap (λ b. numbered 1 (lines_of b)) c.bytes.ensures.bytes) c.in_ok-content.ensures

pub returns-in_err-line : goal.returns-in_err-line
returns-in_err-line g t c = λ before s.
    no_memory c.args.setting.values.now c.args.setting.root.now c.args.room c.args.file.now before (stand g.F.Files c.args.files.now) c.args.meter.now _ c.from_residual-in_err-line.result
    (exit_is c.from_residual-in_err-line.ensures.1) (c.lines.invariant before s).left

pub returns : goal.returns
returns g t c = λ before s.
    let w = c.lines.invariant before s in
    let last = rw c.in_default.is at c.in_ok-line.ensures in
    ends c.args.setting.values.now c.args.setting.root.now c.args.room c.args.file.now before (stand g.F.Files c.args.files.now) c.args.meter.now c.lines.cursor w c.end_text.result last.0
    (c.end_text.ensures w.now w.stands)

pub returns-in-Err : goal.returns-in-Err
returns-in-Err g t c = λ before s.
    let w = c.lines.invariant before s in
    let pass = rw c.in-Some.is at c.in_ok-line.ensures in
    let l = line_shown c.in-Some.line in
    let helps : Bytes → Bool = λ text. is_help (words_of c.args.setting.values.now text) in
    line_refused c.args.setting.values.now c.args.setting.root.now c.args.room c.args.file.now before (stand g.F.Files c.args.files.now) c.args.meter.now c.lines.cursor w l
    (after_help_if (helps l.text) c.next_line.new.self) (one_line helps c.lines.cursor c.next_line.new.self l pass) c.in-Err.bad c.refusal.result _ (c.in-Err.ensures w.now w.stands) c.refusal.ensures refl

pub returns-then-room-eq0 : goal.returns-then-room-eq0
returns-then-room-eq0 g t c = λ before s.
    let w = c.lines.invariant before s in
    let pass = rw c.in-Some.is at c.in_ok-line.ensures in
    let l = line_shown c.in-Some.line in
    let helps : Bytes → Bool = λ text. is_help (words_of c.args.setting.values.now text) in
    let f = c.in-Ok.follows in
    let a = c.in-Ok.ensures w.now w.stands in
    let cut = line_cut helps c.lines.cursor c.next_line.new.self c.pass_help.new.cursor l f.is_help pass a.3 c.pass_help.ensures in
    too_deep c.args.setting.values.now c.args.setting.root.now c.args.room c.args.file.now before (stand g.F.Files c.args.files.now) c.args.meter.now c.lines.cursor w l c.pass_help.new.cursor cut f a
    c.in-Some-text.target c.in-Some-text.is _ _ c.if-room-eq0.true c.refusal-then-room-eq0.ensures refl

pub returns-in_err-read_text-in-Some-text : goal.returns-in_err-read_text-in-Some-text
returns-in_err-read_text-in-Some-text g t c = λ before s.
    let w = c.lines.invariant before s in
    let pass = rw c.in-Some.is at c.in_ok-line.ensures in
    let l = line_shown c.in-Some.line in
    let helps : Bytes → Bool = λ text. is_help (words_of c.args.setting.values.now text) in
    let f = c.in-Ok.follows in
    let a = c.in-Ok.ensures w.now w.stands in
    let cut = line_cut helps c.lines.cursor c.next_line.new.self c.pass_help.new.cursor l f.is_help pass a.3 c.pass_help.ensures in
    text_refused c.args.setting.values.now c.args.setting.root.now c.args.room c.args.file.now before (stand g.F.Files c.args.files.now) c.args.meter.now c.lines.cursor w l c.pass_help.new.cursor cut f a
    c.in-Some-text.target c.in-Some-text.is (omega arith) _ c.from_residual-in_err-read_text-in-Some-text.result (c.in_err-read_text-in-Some-text.ensures a.0 a.2) (exit_is c.from_residual-in_err-read_text-in-Some-text.ensures.1)

pub returns-in_err-sourced-in-Some-text : goal.returns-in_err-sourced-in-Some-text
returns-in_err-sourced-in-Some-text g t c = λ before s.
    let w = c.lines.invariant before s in
    let pass = rw c.in-Some.is at c.in_ok-line.ensures in
    let l = line_shown c.in-Some.line in
    let helps : Bytes → Bool = λ text. is_help (words_of c.args.setting.values.now text) in
    let f = c.in-Ok.follows in
    let a = c.in-Ok.ensures w.now w.stands in
    let cut = line_cut helps c.lines.cursor c.next_line.new.self c.pass_help.new.cursor l f.is_help pass a.3 c.pass_help.ensures in
    let came = text_came c.args.setting.values.now c.args.setting.root.now c.args.room c.args.file.now before (stand g.F.Files c.args.files.now) c.args.meter.now c.lines.cursor w l c.pass_help.new.cursor cut f a
    c.in-Some-text.target c.in-Some-text.is (omega arith) _ (c.in_ok-read_text-in-Some-text.ensures a.0 a.2) in
    no_memory c.args.setting.values.now c.args.setting.root.now c.args.room c.args.file.now before (stand g.F.Files c.args.files.now) c.args.meter.now _ c.from_residual-in_err-sourced-in-Some-text.result (exit_is c.from_residual-in_err-sourced-in-Some-text.ensures.1) came.left

pub lines-smaller : goal.lines-smaller
lines-smaller g t c =
    let pass = rw c.in-Some.is at c.in_ok-line.ensures in
    fewer (λ (text : Bytes). c.in-Ok.follows.is_help) c.lines.cursor c.next_line.new.self c.pass_help.new.cursor (line_shown c.in-Some.line) c.in-Ok.follows.is_help pass refl c.pass_help.ensures

pub lines-smaller-after-follows : goal.lines-smaller-after-follows
lines-smaller-after-follows g t c =
    let pass = rw c.in-Some.is at c.in_ok-line.ensures in
    fewer (λ (text : Bytes). c.in-Ok.follows.is_help) c.lines.cursor c.next_line.new.self c.pass_help.new.cursor (line_shown c.in-Some.line) c.in-Ok.follows.is_help pass refl c.pass_help.ensures

pub lines-preserved : goal.lines-preserved
lines-preserved g t c = λ before s.
    let w = c.lines.invariant before s in
    let pass = rw c.in-Some.is at c.in_ok-line.ensures in
    let l = line_shown c.in-Some.line in
    let helps : Bytes → Bool = λ text. is_help (words_of c.args.setting.values.now text) in
    let f = c.in-Ok.follows in
    let a = c.in-Ok.ensures w.now w.stands in
    let cut = line_cut helps c.lines.cursor c.next_line.new.self c.pass_help.new.cursor l f.is_help pass a.3 c.pass_help.ensures in
    elim c.match-follows.branch [
      | in-Some-text+else-room-eq0+in_ok-read_text-in-Some-text+in_ok-sourced-in-Some-text b ↦
          let some : 0 < c.args.room = omega (arith, b.if-room-eq0.false) in
          let came = text_came c.args.setting.values.now c.args.setting.root.now c.args.room c.args.file.now before (stand g.F.Files c.args.files.now) c.args.meter.now c.lines.cursor w l c.pass_help.new.cursor cut f a
          b.in-Some-text.target b.in-Some-text.is some _ (b.in_ok-read_text-in-Some-text.ensures a.0 a.2) in
          rw (b.files-is, b.meter-is, b.progress-is) (text_passed c.args.setting.values.now c.args.setting.root.now c.args.room c.args.file.now before (stand g.F.Files c.args.files.now) c.args.meter.now c.lines.cursor w l c.pass_help.new.cursor cut f a b.in-Some-text.target b.in-Some-text.is some came
          (b.in_ok-sourced-in-Some-text.ensures came.after l.number came.stands came.closed))
      | in-None b ↦ rw (b.files-is, b.meter-is, b.progress-is) (line_passed c.args.setting.values.now c.args.setting.root.now c.args.room c.args.file.now before (stand g.F.Files c.args.files.now) c.args.meter.now c.lines.cursor w l c.pass_help.new.cursor cut f a b.in-None.is)
    ]

pub lines-preserved-after-follows : goal.lines-preserved-after-follows
lines-preserved-after-follows g t c = λ before s.
    let w = c.lines.invariant before s in
    let pass = rw c.in-Some.is at c.in_ok-line.ensures in
    let l = line_shown c.in-Some.line in
    let helps : Bytes → Bool = λ text. is_help (words_of c.args.setting.values.now text) in
    let f = c.in-Ok.follows in
    let a = c.in-Ok.ensures w.now w.stands in
    let cut = line_cut helps c.lines.cursor c.next_line.new.self c.pass_help.new.cursor l f.is_help pass a.3 c.pass_help.ensures in
    elim c.match-follows.branch [
      | in-Some-text+else-room-eq0+in_ok-read_text-in-Some-text+in_ok-sourced-in-Some-text b ↦
          let some : 0 < c.args.room = omega (arith, b.if-room-eq0.false) in
          let came = text_came c.args.setting.values.now c.args.setting.root.now c.args.room c.args.file.now before (stand g.F.Files c.args.files.now) c.args.meter.now c.lines.cursor w l c.pass_help.new.cursor cut f a
          b.in-Some-text.target b.in-Some-text.is some _ (b.in_ok-read_text-in-Some-text.ensures a.0 a.2) in
          rw (b.files-is, b.meter-is, b.progress-is) (text_passed c.args.setting.values.now c.args.setting.root.now c.args.room c.args.file.now before (stand g.F.Files c.args.files.now) c.args.meter.now c.lines.cursor w l c.pass_help.new.cursor cut f a b.in-Some-text.target b.in-Some-text.is some came
          (b.in_ok-sourced-in-Some-text.ensures came.after l.number came.stands came.closed))
      | in-None b ↦ rw (b.files-is, b.meter-is, b.progress-is) (line_passed c.args.setting.values.now c.args.setting.root.now c.args.room c.args.file.now before (stand g.F.Files c.args.files.now) c.args.meter.now c.lines.cursor w l c.pass_help.new.cursor cut f a b.in-None.is)
    ]
