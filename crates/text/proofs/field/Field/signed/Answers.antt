use Rattle.std.proofs.Common.{◌≡◌, Some, refl, ap}
use Rattle.text.specs.Fields.{bytes_of}
use Rattle.text.specs.Numbers.{signed_of}
use Rattle.text.proofs.Written.{signed_written}
use Rattle.text.proofs.field.Field.signed.Goals as goal

pub returns-clause-written : goal.returns-clause-written
returns-clause-written c z w =
    let e : signed_of (bytes_of c.args.self.now) ≡ Some z = signed_written _ z w in
    let bytes : c.bytes.result.now ≡ bytes_of c.args.self.now = ap (λ b. b.now) c.bytes.ensures in
    rw (c.ok_or.ensures.value, c.signed.ensures, bytes, e) refl
