-- The answer is that of the fields left, after the last tag and with the contents so far.
use Rattle.std.proofs.Common.{◌≡◌, Ok, arith, sym, ◌∙◌, lt-ltb}
use Rattle.sheet.specs.Field.{field_at}
use Rattle.sheet.specs.Sheet.{sheet_of}
use Rattle.sheet.proofs.FieldLaws.{Good, good, reads_start, reads_stop, reads_step, reads_end}
use Rattle.sheet.proofs.PlacedLaws.{sheet_read}
use Rattle.sheet.proofs.reader.read.Goals as goal
use Rattle.sheet.proofs.reader.read.Goals.{After-from}

-- the field that was read
was : (c : After-from) → field_at c.args.bytes.now c.loop-at.at c.loop-at.last ≡ Ok c.in-Ok.field-0
was c = sym c.field_at-answer.ensures ∙ c.in-Ok.is

is_good : (c : After-from) → Good c.args.bytes.now c.loop-at.at c.loop-at.last c.in-Ok.field-0
is_good c = good _ _ _ _ c.loop-at.invariant.within (was c)

pub returns-then-bytes-gt-MAX_SHEET : goal.returns-then-bytes-gt-MAX_SHEET
unfolding sheet_of
returns-then-bytes-gt-MAX_SHEET c = sheet_read c.args.bytes.now _ (simp (lt-ltb _ _ c.if-bytes-gt-MAX_SHEET.true))

pub loop-at-init : goal.loop-at-init
loop-at-init c = reads_start _ (omega arith)

pub returns-in_default : goal.returns-in_default
returns-in_default c = sheet_read _ _ (sym (reads_stop c.loop-at.invariant _ c.loop-at-test.true (sym c.field_at-answer.ensures ∙ c.unwrap_err.ensures)))

pub bounds-contents-from : goal.bounds-contents-from
bounds-contents-from c = omega (arith, (is_good c).known, c.from.ensures)

pub loop-at-smaller : goal.loop-at-smaller
loop-at-smaller c = let w = is_good c in omega arith

pub loop-at-preserved : goal.loop-at-preserved
loop-at-preserved c = rw c.from.ensures (reads_step c.loop-at.invariant _ c.loop-at-test.true (was c))

pub returns : goal.returns
returns c = sheet_read _ _ (c.sheet_in.ensures ∙ sym (reads_end c.loop-at.invariant c.loop-at-test.false))
