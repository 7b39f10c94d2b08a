-- What holds after a call, whatever this answers.
use Rattle.std.proofs.Common.{OnOk, Result, Ok, Err}

pub anyway : {T E : Type 0} (P : Type 0) (r : Result T E) → P → OnOk r P
anyway P (Ok x) p = p
anyway P (Err e) p = tt
