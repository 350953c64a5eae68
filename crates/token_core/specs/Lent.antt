-- What an iterator that lends the values of a list for writing has left.
use Rattle.std.specs.Prelude.{List}
use Rattle.std.specs.Slice.Iter.{iter_mut_rest}
use Rattle.token_core.specs.declared.punctuated.IterMut.{IterMut}

abbrev pub values_left : {T : Type 0} → IterMut T → List T
values_left s = iter_mut_rest s.values
