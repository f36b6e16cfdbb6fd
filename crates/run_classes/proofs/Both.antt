-- Two facts of a value that may be there make a third.
use Rattle.std.specs.declared.option.Option.{Option}
use Rattle.std.specs.declared.option.Option.TheVariants.{None, Some}
use Rattle.std.specs.Option.{IfSome}

pub some_both : {T : Type 0} → (o : Option T) (P Q R : T → Type 0) → IfSome o P → IfSome o Q → ((t : T) → P t → Q t → R t) → IfSome o R
some_both None P Q R p q f = tt
some_both (Some t) P Q R p q f = f t p q
