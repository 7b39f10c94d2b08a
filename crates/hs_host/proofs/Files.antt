-- Five things, one of them changed.
use Rattle.std.proofs.Common.{◌≡◌, refl}
use Rattle.hs_host.specs.declared.file_kind.FileKind.{FileKind}
use Rattle.hs_host.specs.declared.file_kind.FileKind.TheVariants.{Script0, Script1, Log, Data, Backup}
use Rattle.hs_host.specs.Files.{Five, of, with_}

pub of_with : {A : Type 0} (five : Five A) (file : FileKind) (x : A) → of (with_ five file x) file ≡ x
of_with five Script0 x = refl
of_with five Script1 x = refl
of_with five Log x = refl
of_with five Data x = refl
of_with five Backup x = refl

pub with_with : {A : Type 0} (five : Five A) (file : FileKind) (x y : A) → with_ (with_ five file x) file y ≡ with_ five file y
with_with five Script0 x y = refl
with_with five Script1 x y = refl
with_with five Log x y = refl
with_with five Data x y = refl
with_with five Backup x y = refl

pub with_of : {A : Type 0} (five : Five A) (file : FileKind) → with_ five file (of five file) ≡ five
with_of five Script0 = refl
with_of five Script1 = refl
with_of five Log = refl
with_of five Data = refl
with_of five Backup = refl

-- what goes together for each file does so where both are changed for one
pub each_with : {A B : Type 0} (R : A → B → Type 0) (xs : Five A) (ys : Five B) (file : FileKind) (x : A) (y : B) → ((k : FileKind) → R (of xs k) (of ys k)) → R x y → (k : FileKind) → R (of (with_ xs file x) k) (of (with_ ys file y) k)
each_with R xs ys Script0 x y each one Script0 = one
each_with R xs ys Script0 x y each one k = each k
each_with R xs ys Script1 x y each one Script1 = one
each_with R xs ys Script1 x y each one k = each k
each_with R xs ys Log x y each one Log = one
each_with R xs ys Log x y each one k = each k
each_with R xs ys Data x y each one Data = one
each_with R xs ys Data x y each one k = each k
each_with R xs ys Backup x y each one Backup = one
each_with R xs ys Backup x y each one k = each k
