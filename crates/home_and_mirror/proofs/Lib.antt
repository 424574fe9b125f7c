pub mod EventsRead
