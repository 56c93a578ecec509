-- The parameters of a new job (TeX: The Program, part 17; the values of plain TeX).
use Rattle.std.specs.Prelude.{ℤ, pos}
use Rattle.node_core.specs.declared.tree.Glue.{Glue}
use Rattle.node_core.specs.declared.tree.Order.TheVariants.{Normal, Fil}
use Rattle.node_core.specs.declared.params.Params.{Params}
use Rattle.node_core.specs.declared.params.SplitParams.{SplitParams}

-- Glue of this width that neither stretches nor shrinks (own).
abbrev pub rigid : (width : ℤ) → Glue
rigid width = record { width = width; stretch = pos 0; stretch_order = Normal; shrink = pos 0; shrink_order = Normal }

-- The initial parameters of splits: splitmaxdepth is the greatest dimension, and splittopskip is 10pt.
abbrev pub first_split_params : SplitParams
first_split_params = record { split_max_depth = pos 1073741823; split_top_skip = rigid (pos 655360) }

-- The initial parameters: boxmaxdepth is the greatest dimension, baselineskip 12pt, lineskip 1pt, lineskiplimit 0pt and hsize 6.5in; no first line
-- has a width of its own, and firstsize is 6.5in (both own); parfillskip is 0pt plus 1fil; then come the numbers, hoffset and voffset, which are 0pt,
-- and the parameters of splits.
abbrev pub first_params : Params
first_params =
    record {
      box_max_depth = pos 1073741823;
      baseline_skip = rigid (pos 786432);
      line_skip = rigid (pos 65536);
      line_skip_limit = pos 0;
      hsize = pos 30785863;
      first_lines = 0;
      first_size = pos 30785863;
      par_fill_skip = record (rigid (pos 0)) { stretch = pos 65536; stretch_order = Fil };
      pretolerance = pos 100;
      tolerance = pos 200;
      line_penalty = pos 10;
      adj_demerits = pos 10000;
      club_penalty = pos 150;
      widow_penalty = pos 150;
      interline_penalty = pos 0;
      hoffset = pos 0;
      voffset = pos 0;
      split = first_split_params;
    }
