-- The sources and sinks are lawful.
use Rattle.std.specs.Prelude.{◌*◌, refl}
use Rattle.std.proofs.Common.{arith}
use Rattle.stream_model.specs.declared.vocabulary.ItemType.{ItemType}
use Rattle.stream_model.specs.Meaning.{input, IsLawful}
use Rattle.kind_model.specs.Ends.{vector_source, vector_sink, null_sink}
use Rattle.shape_laws.specs.Shaped.{IsItem-zero, IsItem-item, AreItems-input, item-same, IsAtRate-at_rate}

pub vector_source-lawful : (t : ItemType) → IsLawful (vector_source t)
vector_source-lawful t =
    record {
      role = record {
        ports = (refl, refl, refl);
        type = refl;
        rate = refl;
        plain = (refl, refl, refl);
        same = λ ts x n.
            refl;
      };
      counts = λ p. (
        refl,
        IsAtRate-at_rate (vector_source t) p 1 1 (omega arith) (omega arith) (omega arith)
            (omega arith) (λ k. refl) (λ k. refl) (λ s. refl),
      );
      reads_now = omega arith;
      own = refl;
      settable = λ h. refl;
      starts = λ ts xs. refl;
      in_range = λ ts xs p n port wanted h. IsItem-item t (input xs 0) n (AreItems-input t xs 0 h);
      local = λ ts us xs ys k p n port settings inputs h. item-same (input xs 0) (input ys 0) (1 * k) n (inputs.items 0)
          h;
      local_word = λ ts us xs ys k settings inputs. refl;
    }

pub vector_sink-lawful : (t : ItemType) → IsLawful (vector_sink t)
vector_sink-lawful t =
    record {
      role = record { ports = (refl, refl, refl); rate = refl; plain = (refl, refl, refl) };
      counts = λ p. (
        refl,
        IsAtRate-at_rate (vector_sink t) p 1 1 (omega arith) (omega arith) (omega arith)
            (omega arith) (λ k. refl) (λ k. refl) (λ s. refl),
      );
      reads_now = omega arith;
      own = refl;
      settable = λ h. refl;
      starts = λ ts xs. refl;
      in_range = λ ts xs p n port wanted h. IsItem-zero t;
      local = λ ts us xs ys k p n port settings inputs h. refl;
      local_word = λ ts us xs ys k settings inputs. refl;
    }

pub null_sink-lawful : (t : ItemType) → IsLawful (null_sink t)
null_sink-lawful t =
    record {
      role = record { ports = (refl, refl, refl); rate = refl; plain = (refl, refl, refl) };
      counts = λ p. (
        refl,
        IsAtRate-at_rate (null_sink t) p 1 1 (omega arith) (omega arith) (omega arith) (omega arith)
            (λ k. refl) (λ k. refl) (λ s. refl),
      );
      reads_now = omega arith;
      own = refl;
      settable = λ h. refl;
      starts = λ ts xs. refl;
      in_range = λ ts xs p n port wanted h. IsItem-zero t;
      local = λ ts us xs ys k p n port settings inputs h. refl;
      local_word = λ ts us xs ys k settings inputs. refl;
    }
