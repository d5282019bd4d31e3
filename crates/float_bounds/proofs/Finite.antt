-- A finite sum, square or root comes of finite values. By the kinds of values. Assumes nothing.
use mathlib.Core.Bool.{true, false}
use lib.Dec.{T}
use lib.Ieee.{Float, nan, inf, fin, Format, add, mul}
use lib.Ieee.Scale.{finite}
use Rattle.float_order.specs.Values.{is_finite}
use Rattle.float_root.specs.Root.{sqrt_of}

pub finite_is : (x : Float) → T (is_finite x) → T (finite x)
unfolding is_finite
finite_is nan h = absurd h
finite_is (inf s) h = absurd h
finite_is (fin s m e) h = tt

pub add_finite : (f : Format) (x y : Float) → T (finite (add f x y)) → T (finite x) × T (finite y)
unfolding add
add_finite f nan y h = absurd h
add_finite f (inf s) nan h = absurd h
add_finite f (inf true) (inf true) h = absurd h
add_finite f (inf true) (inf false) h = absurd h
add_finite f (inf false) (inf true) h = absurd h
add_finite f (inf false) (inf false) h = absurd h
add_finite f (inf s) (fin t n d) h = absurd h
add_finite f (fin s m e) nan h = absurd h
add_finite f (fin s m e) (inf t) h = absurd h
add_finite f (fin s m e) (fin t n d) h = (tt, tt)

pub square_finite : (f : Format) (x : Float) → T (finite (mul f x x)) → T (finite x)
unfolding mul
square_finite f nan h = absurd h
square_finite f (inf s) h = absurd h
square_finite f (fin s m e) h = tt

pub sqrt_finite : (f : Format) (x : Float) → T (finite (sqrt_of f x)) → T (finite x)
unfolding sqrt_of
sqrt_finite f nan h = absurd h
sqrt_finite f (inf true) h = absurd h
sqrt_finite f (inf false) h = absurd h
sqrt_finite f (fin s m e) h = tt
