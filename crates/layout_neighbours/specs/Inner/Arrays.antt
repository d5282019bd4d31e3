-- The arrays of a search. Assumes nothing.
use Rattle.layout_neighbours.specs.Inner.Search.{Arrays}
use Rattle.layout_neighbours.specs.declared.Search.{Search}

abbrev pub arrays_of : Search → Arrays
arrays_of s = record { visited = s.visited; seen = s.seen; nbrs = s.nbrs; found = s.found }
