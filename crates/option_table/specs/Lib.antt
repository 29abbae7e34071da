pub mod Literals
pub mod Networks
pub mod Numbers
pub mod Parts
pub mod Rows
pub mod Table
pub mod Values
pub use Literals.{ipv4_of, ipv6_of}
pub use Networks.{writes_port}
pub use Numbers.{number_of, short_number, time_of}
pub use Parts.{in_brackets, only_if, ◌>>=◌}
pub use Rows.{lookup_of}
pub use Table.{is_listed}
pub use Values.{value_of}
pub use declared.rows.Group.{Group}
pub use declared.rows.Lookup.{Lookup}
pub use declared.rows.OptionId.{OptionId}
pub use declared.rows.OptionRow.{OptionRow}
pub use declared.values.Value.{Value}
