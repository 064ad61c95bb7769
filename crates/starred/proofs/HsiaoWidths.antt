-- The value of the table of widths: by computation.
use mathlib.Core.Path.{refl}
use Rattle.hsiao.specs.Table.{columns}
use Rattle.hsiao.specs.Widths.Code.{columns_of}
use Rattle.starred.specs.HsiaoWidths.{HsiaoWidths}

pub hsiao_widths : HsiaoWidths
unfolding columns columns_of
hsiao_widths = record {
  sizes = (refl, refl, refl);
  encoded_16 = refl;
  encoded_32 = refl;
  data-beyond = (refl, refl, refl, refl);
  no_width = (refl, refl, refl);
  each-check = (refl, refl);
  mended = refl;
  far = (refl, refl, refl, refl, refl, refl);
  check_beyond = (refl, refl);
  read = (refl, refl, refl);
}
