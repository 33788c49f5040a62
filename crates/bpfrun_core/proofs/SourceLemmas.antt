-- A file that is read has the source text of its form.
use Rattle.std.proofs.Common.{◌≡◌, ℕ, List, Option, Some, None, inl, inr, refl}
use Rattle.bpfrun_core.specs.declared.form.FileForm.{FileForm}
use Rattle.bpfrun_core.specs.declared.form.FileForm.TheVariants.{Text, Hexadecimal, Bytes}
use Rattle.bpfrun_core.specs.Forms.{IsRead, IsFileSource, source_in}

pub source_same : (form : FileForm) (input bytes : List ℕ) (source : Option (List ℕ)) → IsRead form input bytes → IsFileSource form input source →
    source_in form input ≡ source
source_same form input bytes (Some text) read is = is
source_same Text input bytes None read is = elim is [ inl same ↦ same | inr not ↦ absurd (not read.0) ]
source_same Hexadecimal input bytes None read is = refl
source_same Bytes input bytes None read is = refl
