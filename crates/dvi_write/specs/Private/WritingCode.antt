-- How the logic stores the state of a writer (own; the model of `DviWriter` alone).
use Rattle.std.specs.Prelude.{ℕ, ℤ, Bool, List, Option, refl}
use Rattle.std.specs.Coded.{Coded, code_by, coded×, coded_ℕ, coded_ℤ, coded_bool, coded_list, coded_option}
use Rattle.dvi_device.specs.Beginnings.{Beginning}
use Rattle.dvi_device.specs.Pasts.{Past}
use Rattle.dvi_write.specs.SoFar.{ProgressView}
use Rattle.dvi_write.specs.Writing.{Writing}

-- The coding of the kept numbers: those of the layout and the slots; the greatest sizes; the number of pages, and their load.
abbrev pub coded_so_far : Coded ProgressView
coded_so_far =
    code_by ((((ℤ × ℕ) × ℕ) × List ℕ) × ((ℤ × ℤ) × (ℕ × (ℕ × ℕ))))
    (coded× (coded× (coded× (coded× coded_ℤ coded_ℕ) coded_ℕ) (coded_list coded_ℕ))
    (coded× (coded× coded_ℤ coded_ℤ) (coded× coded_ℕ (coded× coded_ℕ coded_ℕ))))
    (λ s. ((((s.layout.last, s.layout.size), s.layout.depth), s.defined), ((s.tall, s.wide), (s.pages, (s.load.nodes, s.load.text)))))
    (λ p. record {
      layout = record { last = p.0.0.0.0; size = p.0.0.0.1; depth = p.0.0.1 };
      defined = p.0.1;
      tall = p.1.0.0;
      wide = p.1.0.1;
      pages = p.1.1.0;
      load = record { nodes = p.1.1.1.0; text = p.1.1.1.1 };
    }) (λ _. refl)

-- The coding of what was sent before: the bytes, what the device that took them reported, and the number of its failures.
abbrev pub coded_beginning : Coded Beginning
coded_beginning =
    code_by ((List ℕ × Option (List ℕ)) × ℕ) (coded× (coded× (coded_list coded_ℕ) (coded_option (coded_list coded_ℕ))) coded_ℕ)
    (λ b. ((b.sent, b.bytes_written), b.failed)) (λ p. record { sent = p.0.0; bytes_written = p.0.1; failed = p.1 }) (λ _. refl)

-- The coding of the past of a device: what it was made with, the bytes that are left to meet, and the number of its own failures.
abbrev pub coded_past : Coded Past
coded_past =
    code_by ((Beginning × List ℕ) × ℕ) (coded× (coded× coded_beginning (coded_list coded_ℕ)) coded_ℕ)
    (λ p. ((p.made, p.left), p.differing)) (λ p. record { made = p.0.0; left = p.0.1; differing = p.1 }) (λ _. refl)

-- The coding of a writer: the kept numbers, and what its device reports; the number of its failures, its past and that at the start; and whether it
-- is over.
abbrev pub coded_writing : Coded Writing
coded_writing =
    code_by ((ProgressView × Option (List ℕ)) × ((ℕ × (Past × Past)) × Bool))
    (coded× (coded× coded_so_far (coded_option (coded_list coded_ℕ))) (coded× (coded× coded_ℕ (coded× coded_past coded_past)) coded_bool))
    (λ w. ((w.so_far, w.bytes_written), ((w.failed, (w.past, w.began)), w.over)))
    (λ p. record { so_far = p.0.0; bytes_written = p.0.1; failed = p.1.0.0; past = p.1.0.1.0; began = p.1.0.1.1; over = p.1.1 }) (λ _. refl)
