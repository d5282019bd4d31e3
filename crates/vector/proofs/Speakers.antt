-- Lists made of speakers: how long they are, and one more of them in an array's first places. Assumes nothing.
use Rattle.std.proofs.Common.{◌≡◌, ℕ, ◌+◌, ◌<◌, List, [], ◌∷◌, ◌++◌, map, length, get_or, take, set, sym, ap, ◌∙◌}
use Rattle.std.proofs.lemmas.List.{take_more, take_more_set}
use lib.ListN.{length-map}
use Rattle.lists.proofs.Collect.{map_snoc}
use Rattle.vector.specs.declared.Speaker.{Speaker}
use Rattle.vector.specs.Speakers.{slots_of, dirs_of}

module _ (act : List Speaker) where
  pub slots_count : length (slots_of act) ≡ length act
  unfolding slots_of
  slots_count = length-map act (λ s. s.slot)

  pub dirs_count : length (dirs_of act) ≡ length act
  unfolding dirs_of
  dirs_count = length-map act (λ s. s.dir)

  -- what a loop makes of each speaker, put in the first places
  pub made_more : {A : Type 0} (f : Speaker → A) (d : Speaker) (a : List A) (i : ℕ) → i < length act → i < length a → take i a ≡ map f (take i act)
      → take (i + 1) (set a i (f (get_or act i d))) ≡ map f (take (i + 1) act)
  made_more {A} f d a i h g e =
      take_more_set a i (f (get_or act i d)) g
      ∙ ap (λ (l : List A). l ++ f (get_or act i d) ∷ []) e
      ∙ sym (ap (map f) (take_more act i d h) ∙ map_snoc f (take i act) (get_or act i d))
