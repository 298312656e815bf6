use Rattle.binder.specs.Interfaces.{bind_data}
use Rattle.binder.proofs.Data.{data_written, length-data}
use Rattle.binder.proofs.interface.write_bind_data.Goals as goal

pub returns-clause-data : goal.returns-clause-data
unfolding bind_data
returns-clause-data c =
    data_written c.args.name.now.kind c.args.name.now.instance _ _ c.args.into.now c.write_counted-instance_at.new.into c.write_counted.new.into
    c.write_counted-instance_at.result c.write_counted.result c.as_bytes.ensures.bytes c.as_bytes-2.ensures.bytes
    c.write_counted-instance_at.ensures.end c.write_counted-instance_at.ensures.written
    c.write_counted.ensures.end c.write_counted.ensures.written

pub returns-clause-length : goal.returns-clause-length
unfolding bind_data
returns-clause-length c =
    length-data c.args.name.now.kind c.args.name.now.instance _ _ c.write_counted-instance_at.result c.write_counted.result
    c.as_bytes.ensures.bytes c.as_bytes-2.ensures.bytes c.write_counted-instance_at.ensures.end c.write_counted.ensures.end
