use Rattle.std.proofs.Common.{◌≡◌, ◌∙◌, IfSome, ap, sym, subst}
use Rattle.std.proofs.lemmas.Result.{on_ok_weaker}
use Rattle.std.specs.Io.KnownBytes.{Appends}
use Rattle.job_texts.proofs.LongJobs.{printed_for_all}
use Rattle.job_texts.proofs.MappedErrors.{at_value, on_value, on_error}
use Rattle.job_texts.specs.Outputs.{AppendsProperPrefix, OutputAfter}
use Rattle.job_texts.specs.Texts.{lab_text}
use Rattle.job_texts.specs.declared.carry.CarryError.TheVariants.{Read, Write}
use Rattle.job_texts.proofs.carry.carry.Goals as goal

pub returns-clause-err : goal.returns-clause-err
returns-clause-err g c =
    let old = g.W.Write.contents c.args.output.now in
    let new = g.W.Write.contents c.write_text.new.output in
    let input = g.R.Read.remaining c.args.input in
    let read = at_value c.read_job.result c.map_err.result (λ e d. d ≡ Read e) _ c.in_ok-job.job c.map_err.ensures.cases c.in_ok-job.was c.read_job.ensures.job in
    let made = c.deref-2.ensures.value ∙ c.in_ok-text.ensures ∙ ap lab_text c.deref.ensures.value in
    on_error c.write_text.result c.map_err-2.result (λ e d. d ≡ Write e) (AppendsProperPrefix old new c.deref-2.result.now) (λ e. OutputAfter e input old new) c.map_err-2.ensures.cases c.write_text.ensures.err
    (λ e d is cut. subst (λ x. OutputAfter x input old new) (sym is) (printed_for_all (AppendsProperPrefix old new) input c.in_ok-job.job.items c.deref-2.result.now read made cut))

pub returns-clause-ok : goal.returns-clause-ok
returns-clause-ok g c =
    let old = g.W.Write.contents c.args.output.now in
    let new = g.W.Write.contents c.write_text.new.output in
    let input = g.R.Read.remaining c.args.input in
    let read = at_value c.read_job.result c.map_err.result (λ e d. d ≡ Read e) _ c.in_ok-job.job c.map_err.ensures.cases c.in_ok-job.was c.read_job.ensures.job in
    let made = c.deref-2.ensures.value ∙ c.in_ok-text.ensures ∙ ap lab_text c.deref.ensures.value in
    on_value c.write_text.result c.map_err-2.result (λ e d. d ≡ Write e) (IfSome input (λ job. Appends old new (lab_text job))) c.map_err-2.ensures.cases
    (on_ok_weaker c.write_text.result (printed_for_all (Appends old new) input c.in_ok-job.job.items c.deref-2.result.now read made) c.write_text.ensures.ok)
