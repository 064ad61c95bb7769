-- The version of the interface: 10,000 times the major number, 100 times the minor one, and the patch.
use Rattle.std.specs.Prelude.{ℕ}

abbrev pub version : ℕ
version = 900
