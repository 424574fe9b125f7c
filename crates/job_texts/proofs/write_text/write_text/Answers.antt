use Rattle.std.proofs.Common.{◌<◌, length, rules, Result, Ok, Err, OnErr}
use Rattle.job_texts.proofs.PartsWritten.{not_all_written}
use Rattle.job_texts.proofs.write_text.write_text.Goals as goal

on_err : {T E P : Type 0} (r : Result T E) → P → OnErr r P
on_err (Ok x) p = tt
on_err (Err e) p = p

pub returns-in_err-taken-clause-err : goal.returns-in_err-taken-clause-err
returns-in_err-taken-clause-err g c =
    let left : 0 < length c.loop-rest.rest.now = search rules in
    on_err c.from_residual.result (not_all_written _ _ _ _ c.loop-rest.rest.now left c.loop-rest.invariant c.in_err-taken.ensures.err)
