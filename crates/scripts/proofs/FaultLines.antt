-- A fault names no line before the first. Assumes nothing.
use Rattle.std.proofs.Common.{◌≡◌, ℕ, ◌+◌, List, length, Err, arith}
use Rattle.faults.specs.Reports.{NamesLineFrom}
use Rattle.faults.specs.declared.field.FieldFault.TheVariants.{NotANumber, WrongDigits}
use Rattle.faults.specs.declared.record.RecordFault.{RecordFault}
use Rattle.faults.specs.declared.record.RecordFault.TheVariants.{Field, TooLong, Unfinished, UnknownWord, FieldCount, NotPermitted, EndsInSession}
use Rattle.text.specs.Lines.{fields}
use Rattle.scripts.proofs.ScriptLaws.{fault}
use Rattle.scripts.specs.Judgements.{script}
use Rattle.scripts.specs.Laws.{LineFault, TextFault}
use Rattle.scripts.specs.declared.state.State.{State}

line_named : (s : State) (n k : ℕ) (fs : List (List ℕ)) (e : RecordFault) → LineFault s (n + k) fs e → NamesLineFrom n e
line_named s n k fs (UnknownWord i) f = omega (arith, f.0)
line_named s n k fs (FieldCount i) f = omega (arith, f.0)
line_named s n k fs (NotPermitted i) f = omega (arith, f.0)
line_named s n k fs (Field (NotANumber p)) f = omega (arith, f.0)
line_named s n k fs (Field (WrongDigits p)) f = absurd f
line_named s n k fs _ f = absurd f

text_named : (n : ℕ) (bs : List ℕ) (e : RecordFault) → TextFault n bs e → NamesLineFrom n e
text_named n bs TooLong f = tt
text_named n bs (Unfinished i) f = omega (arith, f.2)
text_named n bs (EndsInSession i) f = omega (arith, f.1.2)
text_named n bs e f = line_named f.1.state n (length f.1.records) (fields f.1.line) e f.1.fault

pub fault_named : (n : ℕ) (bs : List ℕ) (e : RecordFault) → script n bs ≡ Err e → NamesLineFrom n e
fault_named n bs e is = text_named n bs e (fault n bs e is)
