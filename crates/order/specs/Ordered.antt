-- What `codes::by_code` says of the keys. Assumes nothing.
use Rattle.std.specs.Prelude.{◌≡◌, List, ℕ, ◌%◌, ◌<◌, length, get_or}
use Rattle.order.specs.Key.{order_of}

-- key i holds the number of the i-th record in order of code
pub record Ordered (xs before after : List ℕ) (count : ℕ) : Type 0 where
  pub long : length after ≡ length before
  pub number : (i : ℕ) → i < count → get_or after i 0 % 65536 ≡ get_or (order_of xs) i 0
