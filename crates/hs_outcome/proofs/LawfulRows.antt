-- Rows whose values are lawful.
use Rattle.std.proofs.Common.{◌≡◌, true, List, [], ◌∷◌}
use Rattle.std.specs.List.{All, list_all}
use Rattle.std.proofs.lemmas.Bool.{and_parts}
use Rattle.std.proofs.lemmas.List.Elements.{All-cons, All-nil}
use Rattle.hs_values.specs.declared.value.Value.{Value}
use Rattle.hs_values.specs.declared.value.Value.TheVariants as v
use Rattle.hs_values.specs.Lawful.{IsLawful}
use Rattle.hs_values.proofs.OneType.{fits_lawful}
use Rattle.hs_outcome.specs.Lawful.{is_lawful, own_type}

one_lawful : (value : Value) → is_lawful value ≡ true → IsLawful value
one_lawful (v.Text text) h = tt
one_lawful (v.Bool b) h = tt
one_lawful v.Null h = tt
one_lawful (v.Int n) h = fits_lawful (own_type (v.Int n)) (v.Int n) h
one_lawful (v.Dec d) h = fits_lawful (own_type (v.Dec d)) (v.Dec d) h
one_lawful (v.Day day) h = fits_lawful (own_type (v.Day day)) (v.Day day) h
one_lawful (v.Micros micros) h = fits_lawful (own_type (v.Micros micros)) (v.Micros micros) h

pub all_lawful : (row : List Value) → list_all is_lawful row ≡ true → All IsLawful row
all_lawful [] h = All-nil IsLawful
all_lawful (value ∷ row) h =
    let both = and_parts (is_lawful value) (list_all is_lawful row) h in
    All-cons IsLawful value row (one_lawful value both.0) (all_lawful row both.1)
