use Rattle.std.proofs.Common.{◌≡◌, Err, refl, subst}
use Rattle.serving.specs.declared.loading.SetFault.{SetFault}
use Rattle.serving.specs.declared.loading.SetFault.TheVariants as fault
use Rattle.serving.proofs.running.listen_behind.Goals as goal

pub returns-in-Err-Book-clause-refused : goal.returns-in-Err-Book-clause-refused
returns-in-Err-Book-clause-refused g c = λ is.
    let is_fault : SetFault → Type 0 = λ f. c.args.set ≡ Err f in
    let book : c.in-Err-Book.field-0 ≡ fault.Book =
    rw c.in-Err-Book.is at c.in-Err-Book.field-0-is in
    (subst is_fault book c.in-Err-Book.is, refl)
