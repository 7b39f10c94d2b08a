-- The surroundings of a part, as they are kept.
use Rattle.std.specs.Prelude.{ℕ, List, [], ◌∷◌, Option}
use Rattle.std.specs.Option.{option_map}
use Rattle.hs_scope.specs.Scopes.{scopes_of}
use Rattle.hs_meaning.specs.Surroundings as spec
use Rattle.hs_meaning.specs.declared.around.Groups.{Groups, Outermost, Inside'}
use Rattle.hs_meaning.specs.declared.around.Surroundings.{Surroundings}

abbrev pub groups_of : Groups → List (Option (List ℕ))
groups_of Outermost = []
groups_of (Inside' columns p around) = option_map (λ c. c.now) columns ∷ groups_of around

abbrev pub seen : Surroundings → spec.Surroundings
seen s = record { scopes = scopes_of s.scopes; groups = groups_of s.groups; aggregates = s.aggregates; queries = s.queries }
