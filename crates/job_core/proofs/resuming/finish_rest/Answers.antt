use Rattle.std.proofs.Common.{◌≡◌, ◌+◌, ap, sym, ◌∙◌}
use Rattle.dvi_write.specs.Layout.{whole}
use Rattle.dvi_device.specs.Pasts.{Past}
use Rattle.dvi_device.specs.Resumed.{written_by}
use Rattle.job_core.proofs.RestsOfFiles.{completed, rest_completed, passed_on, no_device}
use Rattle.job_core.proofs.resuming.finish_rest.Goals as goal

pub returns : goal.returns
returns g c =
    let bytes_written = g.D.Device.bytes_written in
    let failed = g.D.Device.failed in
    let rest = c.into_device-rest.result in
    let ended = c.finish-end.new.self in
    let made = c.into_device-rest.ensures.made ∙ ap (λ (p : Past). p.made) c.finish-end.ensures.goes_on.began in
    let counts : ended.failed ≡ failed c.into_device.result + ended.past.differing =
    sym c.into_device-rest.ensures.failed
    ∙ (ap (λ (d : g.row.D.Denot). failed d + rest.failures) (sym c.into_device.ensures.device)
    ∙ ap (λ (p : Past). failed c.into_device.result + p.differing) c.into_device-rest.ensures.past) in
    record {
      whole = λ m holds had front. completed c.finish-end.result ended.bytes_written (written_by bytes_written rest) (bytes_written rest.start) (bytes_written c.into_device.result) rest.sent
          (whole m.state.fonts m.pages) (failed rest.start) c.args.job.began.made (c.finish-end.ensures.file m holds) c.into_device-rest.ensures.bytes_written
          made had front (c.into_device.ensures.whole (whole m.state.fonts m.pages));
      rest = λ m holds front. rest_completed c.finish-end.result ended.bytes_written (written_by bytes_written rest) (bytes_written rest.start) (bytes_written c.into_device.result) rest.sent
          (whole m.state.fonts m.pages) (failed rest.start) c.args.job.began.made (c.finish-end.ensures.file m holds) c.into_device-rest.ensures.bytes_written
          made front (c.into_device.ensures.rest_sent (whole m.state.fonts m.pages));
      device = λ m holds. no_device c.args.job ended c.finish-end.result (failed c.into_device.result) m c.finish-end.ensures.finished c.finish-end.ensures.goes_on.began counts holds;
      finished = (
        ended,
        c.finish-end.ensures.finished,
        passed_on ended.bytes_written (written_by bytes_written rest) (bytes_written rest.start) (bytes_written c.into_device.result) rest.sent (failed rest.start) c.args.job.began.made
            c.into_device-rest.ensures.bytes_written made c.into_device.ensures.passes_on,
        counts,
        c.finish-end.ensures.goes_on.began,
      );
      count = c.finish-end.ensures.count;
    }
