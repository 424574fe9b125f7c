-- A report as it is printed.
--     report_text r     the word `fault` and the four numbers of r in decimal, separated by tabs
use Rattle.std.specs.Prelude.{List, ℕ, ◌++◌, codes}
use Rattle.std.specs.Fmt.{decimal}
use Rattle.faults.specs.declared.report.Report.{Report}

abbrev pub report_text : Report → List ℕ
report_text r = codes "fault\t" ++ decimal r.layer ++ codes "\t" ++ decimal r.number ++ codes "\t" ++ decimal r.line ++ codes "\t" ++ decimal r.field
