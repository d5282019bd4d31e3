-- What std's `all` says, beside the definitions' own word. Assumes nothing.
use Rattle.std.proofs.Common.{◌≡◌, Bool, List, [], ◌∷◌, ◌&&◌, refl, ap}
use Rattle.std.specs.List.{list_all}
use Rattle.lists.specs.Lists.{every}

pub all_every : {A : Type 0} (f : A → Bool) (l : List A) → list_all f l ≡ every f l
unfolding every
all_every f [] = refl
all_every f (a ∷ l) = ap (λ b. f a && b) (all_every f l)
